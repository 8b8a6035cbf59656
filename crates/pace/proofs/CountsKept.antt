-- Counts kept through a schedule: each task's count, told from events and outputs, fits its position in the model, and so is within the
-- most steps of its call; and a refused step of a running call is refused with 7. By induction over the events. Assumes nothing.
use Rattle.std.specs.Prelude.{◌≡◌, ◌⊎◌, true, List, [], ◌∷◌, ℕ, suc, ◌+◌, ◌≤◌, if◌then◌else◌, Ok}
use Rattle.std.proofs.Math.Path.{refl}
use Rattle.std.proofs.Common.{sym, ◌∙◌, subst, inl, inr, arith, eq-eqb, ne_eqb}
use Rattle.std.proofs.Math.Bool.{false}
use Rattle.std.proofs.Math.Decide.{ℕ_discrete}
use Rattle.std.proofs.Math.Dec.{eqb}
use Rattle.spec.specs.declared.Answer.{Answer}
use Rattle.spec.specs.declared.Call.{Call}
use Rattle.spec.specs.declared.Call.TheVariants.{Insert, Remove, Contains, Grow, Shrink}
use Rattle.spec.specs.declared.Config.{Config}
use Rattle.spec.specs.Outputs.{Output}
use Rattle.spec.specs.declared.Progress.TheVariants as Outs
use Rattle.spec.specs.Machine.{Machine, task_of}
use Rattle.spec.specs.Listed.{key}
use Rattle.spec.specs.Entries.{opening}
use Rattle.spec.specs.Schedule.{Event, starts, steps, event, run}
use Rattle.laws.specs.Tests.{tf, bool?}
use Rattle.laws.specs.Soundness.{sound_facts}
use Rattle.model.specs.Functions.{upd, upd_same, upd_other}
use Rattle.model.specs.Heap.{Heap}
use Rattle.model.specs.Positions.{Position, no_call}
use Rattle.model.specs.Lines.{Step}
use Rattle.model.specs.Runs.{Configuration, opened, initial, Reachable}
use Rattle.model.proofs.Linearization.{invariant}
use Rattle.linear.specs.Represents.{size_bound}
use Rattle.linear.specs.KnownNodes.{Names, named}
use Rattle.linear.specs.Matches.{running_call, idle_no_call}
use Rattle.linear.specs.StepSimulated.{Outcome, went_on, call_ended, resize_ended}
use Rattle.linear.specs.FirstPositions.{first_of}
use Rattle.linear.specs.EventOutcomes.{StandsAt, EventOutcome, start_refused, call_started, step_refused, none_free, stepped as made-step}
use Rattle.linear.proofs.EventOutcomes.{event_simulated}
use Rattle.linear.specs.Opening.{opening_simulates}
use Rattle.pace.specs.StepCounts.{CallCount, begun, stepped, done_with, beside_end, count, counts, none_begun, most_steps, Within}
use Rattle.pace.specs.StepCounts.{StepsWithin, RefusedWith7, Only7Refuses}
use Rattle.pace.specs.Heads.{HeadMoves, outcome_head}
use Rattle.pace.specs.Pace.{IsCall, BehindMoved, paced_stays, paced_step}
use Rattle.pace.specs.CountFits.{RunningFits, Fits, not_running, is_running, WithinMost, most_more}
use Rattle.pace.proofs.CountFits.{running_below, fits_within}
use Rattle.pace.specs.CountsKept.{CountsFit}

-- ---- a call's first line
first_call : (c : Call) (k : ℕ) → IsCall c (first_of c k)
first_call Insert k = refl
first_call Remove k = refl
first_call Contains k = refl
first_call Grow k = refl
first_call Shrink k = refl

first_behind : (hd : ℕ) (c : Call) (k : ℕ) → BehindMoved hd hd (first_of c k)
first_behind hd Insert k x n = absurd n
first_behind hd Remove k x n = absurd n
first_behind hd Contains k x n = absurd n
first_behind hd Grow k x n = absurd n
first_behind hd Shrink k x n = absurd n

-- ---- one event
module _ (slack : ℕ) (c : ℕ → CallCount) (y : Machine) (s : CountsFit slack c y) where
  abbrev w : Configuration
  w = s.configuration

  -- a task that does not move, while the head moves with j resizes done
  other_fits : (g : Heap) (q j : ℕ) → HeadMoves w.heap.head g.head j → (d : CallCount)
      → d.call ≡ (c q).call → d.running ≡ (c q).running → d.accepted ≡ (c q).accepted → d.resizes ≡ (c q).resizes + j
      → Fits slack g (w.position q) d
  other_fits g q j moves d ec el em er = go (s.fits q)
    where
      go : Fits slack w.heap (w.position q) (c q) → Fits slack g (w.position q) d
      go (not_running a b m) =
          let more = most_more (c q).call ((c q).resizes + slack) j in
          let e : (c q).resizes + j + slack ≡ (c q).resizes + slack + j = omega arith in
          not_running a (el ∙ b) (rw (em, ec, er, e) (omega arith))
      go (is_running b t) =
          let moved = t.moved_by in
          let reached = t.base_reached in
          let up = moves.rises in
          let most = moves.at_most in
          is_running (el ∙ b) (record {
            base = t.base;
            base_reached = omega arith;
            moved_by = omega arith;
            paced = rw (ec, em) (paced_stays g.head (w.position q) up reached t.paced);
          })

  -- a task that runs is counted as running
  pub running_fits : (p : ℕ) → (task_of y p).running ≡ true
      → ((c p).running ≡ true) × RunningFits slack w.heap (w.position p) (c p)
  running_fits p r = go (s.fits p)
    where
      go : Fits slack w.heap (w.position p) (c p) → ((c p).running ≡ true) × RunningFits slack w.heap (w.position p) (c p)
      go (not_running a b m) = absurd (running_call w.heap s.sim.records (task_of y p) r (w.position p) (s.sim.matches p) a)
      go (is_running b t) = (b, t)

  named_size : (p x : ℕ) → Names (w.position p) x → w.heap.size x ≤ 32
  named_size p x n = size_bound (sound_facts y s.sim.sound_now) s.sim.rep x (named p n)

  -- so its next step is within the most, too
  one_more_within : (p : ℕ) → (task_of y p).running ≡ true → suc (c p).accepted ≤ most_steps (c p).call ((c p).resizes + slack)
  one_more_within p r =
      let i = invariant s.reach in
      running_below slack w.heap (c p) i.0 (w.start p) (w.position p) (i.1.task p) (named_size p) (running_fits p r).1

  -- task p goes to l, and the heap is g
  step_fits : (p : ℕ) (g : Heap) (l : Position) → (task_of y p).running ≡ true → Step w.heap (w.position p) g l
      → ¬ (l ≡ no_call) → HeadMoves w.heap.head g.head 0 → Fits slack g l (stepped true (c p))
  unfolding stepped
  step_fits p g l r line d moves =
      let t = (running_fits p r).1 in
      let moved = t.moved_by in
      let reached = t.base_reached in
      let up = moves.rises in
      let most = moves.at_most in
      let inv = invariant s.reach in
      is_running refl
      (record {
        base = t.base;
        base_reached = omega arith;
        moved_by = omega arith;
        paced = paced_step w.heap inv.1.heap inv.0 (w.start p) t.base (c p).accepted (c p).call (inv.1.task p) (named_size p)
            reached line d t.paced;
      })

  -- task p's call ends, and the heap is g
  end_fits : (p : ℕ) (a : Answer) (g : Heap) → (task_of y p).running ≡ true → HeadMoves w.heap.head g.head (done_with a)
      → (q : ℕ) → Fits slack g (upd w.position p no_call q) (if eqb q p then stepped false (c q) else beside_end a (c q))
  unfolding stepped beside_end
  end_fits p a g r moves q = go (ℕ_discrete q p)
    where
      go : Dec (q ≡ p) → Fits slack g (upd w.position p no_call q) (if eqb q p then stepped false (c q) else beside_end a (c q))
      go (yes u) = rw (eq-eqb q p u, u, upd_same w.position p no_call) (not_running refl refl (one_more_within p r))
      go (no d) =
          rw (ne_eqb q p d, upd_other w.position p no_call q d)
          (other_fits g q (done_with a) moves (beside_end a (c q)) refl refl refl refl)

  outcome_fits : (p : ℕ) {o : Output} {v : Configuration} → (task_of y p).running ≡ true → Outcome w p (task_of y p).own o v
      → StandsAt o (v.position p) → (q : ℕ) → Fits slack v.heap (v.position q) (count c (steps p) o q)
  unfolding count
  outcome_fits p r (went_on {n = n} g l line) at q = go (ℕ_discrete q p)
    where
      moves : HeadMoves w.heap.head g.head 0
      moves = outcome_head {w = w} {own = (task_of y p).own} (went_on {n = n} g l line) at

      go : Dec (q ≡ p) → Fits slack g (upd w.position p l q) (if eqb q p then stepped true (c q) else c q)
      go (yes u) =
          rw (eq-eqb q p u, u, upd_same w.position p l)
          (step_fits p g l r line (λ z. at.0 (upd_same w.position p l ∙ z)) moves)
      go (no d) = rw (ne_eqb q p d, upd_other w.position p l q d) (other_fits g q 0 moves (c q) refl refl refl (omega arith))
  outcome_fits p r (call_ended {a = a} g x {full = full}) at q =
      end_fits p a g r (outcome_head {w = w} {own = (task_of y p).own} (call_ended {a = a} g x {full = full}) at) q
  outcome_fits p r (resize_ended a g line moved {full = full}) at q =
      end_fits p a g r (outcome_head {w = w} {own = (task_of y p).own} (resize_ended a g line moved {full = full}) at) q

  start_fits : (p : ℕ) (call : Call) (tag n : ℕ) (q : ℕ)
      → Fits slack w.heap (upd w.position p (first_of call tag) q) (count c (starts p call tag) (Ok (Outs.At n)) q)
  unfolding count begun
  start_fits p call tag n q = go (ℕ_discrete q p)
    where
      go : Dec (q ≡ p) → Fits slack w.heap (upd w.position p (first_of call tag) q) (if eqb q p then begun call else c q)
      go (yes u) = rw (eq-eqb q p u, u, upd_same w.position p (first_of call tag))
          (is_running refl (record {
            base = w.heap.head;
            base_reached = omega arith;
            moved_by = omega arith;
            paced = record { is_call = first_call call tag; made = omega arith; behind_moved = first_behind w.heap.head call tag };
          }))
      go (no d) = rw (ne_eqb q p d, upd_other w.position p (first_of call tag) q d) (s.fits q)

  -- and what is counted as running runs
  running_runs : (p : ℕ) → (c p).running ≡ true → (task_of y p).running ≡ false → ⊥
  running_runs p b r = go (s.fits p)
    where
      go : Fits slack w.heap (w.position p) (c p) → ⊥
      go (not_running a b' m) = tf b b'
      go (is_running b t) =
          subst (IsCall (c p).call) (idle_no_call w.heap s.sim.records (task_of y p) r (w.position p) (s.sim.matches p))
          t.paced.is_call

  event_fits : {ev : Event} {o : Output} {v : Configuration} → EventOutcome y w ev o v → (q : ℕ)
      → Fits slack v.heap (v.position q) (count c ev o q)
  unfolding count
  event_fits (start_refused p call tag r other) q = s.fits q
  event_fits (call_started p call tag n lt a) q = start_fits p call tag n q
  event_fits (step_refused p r a other) q = s.fits q
  event_fits (none_free p a h) q = s.fits q
  event_fits (made-step p lt r t at) q = outcome_fits p r t at q

  event_7 : {ev : Event} {o : Output} {v : Configuration} → EventOutcome y w ev o v → RefusedWith7 c ev o
  event_7 (start_refused p call tag r other) = tt
  event_7 (call_started p call tag n lt a) = tt
  event_7 (step_refused p r a other) = λ b. absurd (running_runs p b a)
  event_7 (none_free p a h) = λ b. refl
  event_7 (made-step p lt r (went_on g l line) at) = tt
  event_7 (made-step p lt r (call_ended g x) at) = tt
  event_7 (made-step p lt r (resize_ended a g line moved) at) = tt

  pub event_kept : (ev : Event) → CountsFit slack (count c ev (event y ev).out) (event y ev).machine × RefusedWith7 c ev (event y ev).out
  event_kept ev =
      let t = event_simulated y w s.reach s.sim ev in
      let next = event_fits t.outcome in
      (record { configuration = t.configuration; reach = t.reach; sim = t.sim; fits = next }, event_7 t.outcome)

-- the counts are within the most steps
pub within_most_steps : (slack : ℕ) (c : ℕ → CallCount) (y : Machine) → CountsFit slack c y → (p : ℕ) → WithinMost slack (c p)
within_most_steps slack c y s p =
    let i = invariant s.reach in
    fits_within slack s.configuration.heap (c p) i.0 (s.configuration.start p) (s.configuration.position p)
    (i.1.task p) (named_size slack c y s p) (s.fits p)

within_now : (c : ℕ → CallCount) (y : Machine) → CountsFit 0 c y → (ev : Event) → Within c ev
within_now c y s (starts p call tag) = tt
within_now c y s (steps p) =
    let none : (c p).resizes + 0 ≡ (c p).resizes = omega arith in
    rw none at (within_most_steps 0 c y s p).0

-- ---- all events
pub run_kept : (slack : ℕ) (c : ℕ → CallCount) (y : Machine) → CountsFit slack c y → (es : List Event)
    → CountsFit slack (counts c es (run y es).outs) (run y es).machine × Only7Refuses c es (run y es).outs
unfolding run counts
run_kept slack c y s [] = (s, tt)
run_kept slack c y s (ev ∷ es) =
    let m = event_kept slack c y s ev in
    let r = run_kept slack (count c ev (event y ev).out) (event y ev).machine m.0 es in
    (r.0, (m.1, r.1))

pub run_within : (c : ℕ → CallCount) (y : Machine) → CountsFit 0 c y → (es : List Event) → StepsWithin c es (run y es).outs
unfolding run
run_within c y s [] = tt
run_within c y s (ev ∷ es) =
    let m = (event_kept 0 c y s ev).0 in
    let d = count c ev (event y ev).out in
    (within_now d (event y ev).machine m ev, run_within d (event y ev).machine m es)

-- what is counted as running is what runs
pub running_is : (slack : ℕ) (c : ℕ → CallCount) (y : Machine) → CountsFit slack c y → (p : ℕ) → (task_of y p).running ≡ (c p).running
running_is slack c y s p = go (bool? (task_of y p).running) (bool? (c p).running)
  where
    go : ((task_of y p).running ≡ true) ⊎ ((task_of y p).running ≡ false) → ((c p).running ≡ true) ⊎ ((c p).running ≡ false)
        → (task_of y p).running ≡ (c p).running
    go (inl r) b = r ∙ sym (running_fits slack c y s p r).0
    go (inr r) (inl b) = absurd (running_runs slack c y s p b r)
    go (inr r) (inr b) = r ∙ sym b

-- ---- before the first event

none_fits : (h : Heap) (q : ℕ) → Fits 0 h no_call (none_begun q)
unfolding none_begun
none_fits h q = not_running refl refl (omega arith)

pub opening_fits : (g : Config) (ns bs : List ℕ) → (opening g ns bs).refusal ≡ 0 → CountsFit 0 none_begun (opening g ns bs).machine
opening_fits g ns bs ok = record {
  configuration = initial (key g);
  reach = Reachable.initially (key g);
  sim = opening_simulates g ns bs ok;
  fits = none_fits (opened (key g));
}
