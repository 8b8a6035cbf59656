-- While something runs, a turn goes to a running task; with enough records its step is accepted; and each accepted step takes one off what
-- the running calls have left of their 292 further steps. So 292 × T turns use them up. By induction over the moves. Assumes nothing.
use Prim.Native.Nat.{ℕ, suc, ◌-◌, ◌≤◌, ◌<◌}
use Rattle.std.proofs.Math.Decide.{ℕ_discrete}
use native.Mathlib.Omega.{arith}
use Rattle.std.specs.Prelude.{◌≡◌, ◌⊎◌, Bool, false, if◌then◌else◌, Ok, Err}
use Rattle.std.proofs.Math.Path.{refl, sym}
use Rattle.std.proofs.Common.{ap, ◌∙◌, inl, inr, eq-eqb, ne_eqb}
use Rattle.std.proofs.Math.Bool.{true}
use mathlib.Core.List.{List, [], ◌∷◌}
use Rattle.spec.specs.declared.Refusal.{Refusal}
use Rattle.spec.specs.declared.Refusal.TheVariants.{NoRecord, Spoilt}
use Rattle.spec.specs.declared.Config.{Config}
use Rattle.spec.specs.Outputs.{Output}
use Rattle.spec.specs.declared.Progress.TheVariants.{At, End}
use Rattle.spec.specs.Machine.{Machine, with_chosen, with_state, state_chosen, task_of}
use Rattle.spec.specs.Sound.{task_count}
use Rattle.spec.specs.Entries.{Reply, opening, step}
use Rattle.spec.specs.Schedule.{Event, starts, steps, event, run}
use Rattle.turns.specs.Turn.{Turned}
use Rattle.turns.specs.Moves.{Move, enters, turns, turned, move, moves, run_of, stands_for, outputs}
use Rattle.laws.specs.Tests.{tf, bool?}
use Rattle.laws.specs.Soundness.{sound_facts, run_of as runs-below}
use Rattle.linear.specs.Schedules.{schedule_runs}
use Rattle.model.specs.Runs.{Configuration}
use Rattle.linear.specs.StepSimulated.{went_on, call_ended, resize_ended}
use Rattle.linear.specs.EventOutcomes.{EventOutcome, start_refused, call_started, step_refused, none_free, stepped as made-step}
use Rattle.linear.proofs.EventOutcomes.{event_simulated}
use Rattle.corollaries.specs.TurnOutcome.{Next, TurnOutcome, spoilt, nothing_runs, goes, step_spoilt, turn_outcome}
use Rattle.dispatcher.specs.InOrder.{event_tasks, step_tasks}
use Rattle.dispatcher.specs.Erasure.{Beside, same_event, beside_event, beside_turn}
use Rattle.dispatcher.specs.Theorems.{moves_tasks, opened_tasks, sound_run, is_schedule}
use Rattle.bounds.specs.EnoughRecords.{Enough}
use Rattle.bounds.specs.RecordsSuffice.{EnoughNow}
use Rattle.bounds.proofs.RecordsSuffice.{enough_next, event_not_7, run_enough, enough_at_opening}
use Rattle.pace.specs.StepCounts.{CallCount, stepped, beside_end, count, counts, none_begun, NoStart, NobodyStarts, anew, RefusedWith7}
use Rattle.pace.specs.EndsByTurns.{turn_count, EndsByTurns}
use Rattle.pace.specs.Totals.{total, total_most, total_le, total_less, total_has}
use Rattle.pace.specs.CountsKept.{CountsFit}
use Rattle.pace.proofs.CountsKept.{event_kept, run_kept, running_is, opening_fits}
use Rattle.pace.proofs.NoNewStarts.{FewDone, anew_few, fits_anew, event_few, few_steps}

-- ---- what a running call has left of its 292 further steps

steps_left : (ℕ → CallCount) → ℕ → ℕ
steps_left c q = if (c q).running then (292 - (c q).accepted) else 0

left_most : (c : ℕ → CallCount) (q : ℕ) → steps_left c q ≤ 292
unfolding steps_left
left_most c q = go (c q).running
  where
    go : (b : Bool) → (if b then (292 - (c q).accepted) else 0) ≤ 292
    go true = omega arith
    go false = omega arith

abbrev Accepted : Output → Type 0
Accepted (Ok (At l)) = Unit {0}
Accepted (Ok (End a own full)) = Unit {0}
Accepted (Err r) = ⊥

module _ (c : ℕ → CallCount) (p : ℕ) where
  -- an accepted step of a running call takes one off; the others' stay
  left_less : (o : Output) → Accepted o → (c p).running ≡ true → (c p).accepted < 292 → steps_left (count c (steps p) o) p < steps_left c p
  unfolding steps_left count stepped
  left_less (Ok (At l)) a runs few = rw (eq-eqb p p refl, runs) (omega arith)
  left_less (Ok (End a own full)) b runs few = rw (eq-eqb p p refl, runs) (omega arith)
  left_less (Err r) a runs few = absurd a

  left_other : (o : Output) (q : ℕ) → ¬ (q ≡ p) → steps_left (count c (steps p) o) q ≤ steps_left c q
  unfolding steps_left count beside_end
  left_other (Ok (At l)) q d = rw (ne_eqb q p d) (omega arith)
  left_other (Ok (End a own full)) q d = rw (ne_eqb q p d) (omega arith)
  left_other (Err r) q d = omega arith

  left_step : (o : Output) → Accepted o → (c p).running ≡ true → (c p).accepted < 292 → (q : ℕ) → steps_left (count c (steps p) o) q ≤ steps_left c q
  left_step o a runs few q = go (ℕ_discrete q p)
    where
      go : Dec (q ≡ p) → steps_left (count c (steps p) o) q ≤ steps_left c q
      go (yes u) = let l = left_less o a runs few in rw u (omega arith)
      go (no d) = left_other o q d

-- what is refused leaves as much
left_refused : (c : ℕ → CallCount) (e : Event) (r : Refusal) (q : ℕ) → steps_left (count c e (Err r)) q ≤ steps_left c q
unfolding steps_left count
left_refused c (starts p call tag) r q = omega arith
left_refused c (steps p) r q = omega arith

-- ---- a machine of a run, with l for the last one chosen a machine of a schedule; c counts anew from some move on
record Going (l : ℕ) (c : ℕ → CallCount) (y : Machine) : Type 0 where
  beside : Beside l y
  fits : CountsFit 1 c (with_chosen l y)
  few : FewDone c
  enough : EnoughNow (with_chosen l y)

module _ (l : ℕ) where
  event_going : (c : ℕ → CallCount) (y : Machine) → Going l c y → (e : Event) → NoStart e (event y e).out
      → Going l (count c e (event y e).out) (event y e).machine
  event_going c y s e none =
      let z = with_chosen l y in
      let same = same_event l y s.beside e in
      let out = ap (λ (r : Reply). r.out) same in
      let left = ap (λ (r : Reply). r.machine) same in
      let t = event_simulated z s.fits.configuration s.fits.reach s.fits.sim e in
      record {
        beside = beside_event l y s.beside e;
        fits = rw (out, left) at (event_kept 1 c z s.fits e).0;
        few = rw out at (event_few 1 c z s.fits s.few t.outcome (rw out none));
        enough = rw left at (enough_next z s.enough e);
      }

  -- a running task is counted as running, is one of the T, and has made fewer than 292
  module _ (c : ℕ → CallCount) (y : Machine) (s : Going l c y) (p : ℕ) (r : (task_of y p).running ≡ true) where
    is_counted : (c p).running ≡ true
    unfolding task_of with_chosen with_state state_chosen
    is_counted = sym (running_is 1 c (with_chosen l y) s.fits p) ∙ r

    has_left : (c p).accepted < 292
    has_left = (few_steps c (with_chosen l y) s.fits s.few p).1 is_counted

    is_below : p < task_count y
    is_below = (runs-below y (sound_facts y s.beside.ok) p r).below_T

    -- its accepted step takes one off what is left in all
    total_falls : (o : Output) → Accepted o → total (steps_left (count c (steps p) o)) (task_count y) < total (steps_left c) (task_count y)
    total_falls o a =
        total_less (steps_left (count c (steps p) o)) (steps_left c) (left_step c p o a is_counted has_left) p
        (left_less c p o a is_counted has_left) (task_count y) is_below

    some_left : 0 < total (steps_left c) (task_count y)
    unfolding steps_left
    some_left =
        let here : 0 < steps_left c p = rw is_counted (let few = has_left in omega arith) in
        let most = total_has (steps_left c) p (task_count y) is_below in
        omega arith

  -- an event that starts no call leaves no more in all
  module _ (c : ℕ → CallCount) (y : Machine) (s : Going l c y) where
    abbrev z : Machine
    z = with_chosen l y

    made : (p : ℕ) → (task_of z p).running ≡ true → (o : Output) → Accepted o → (q : ℕ) → steps_left (count c (steps p) o) q ≤ steps_left c q
    unfolding task_of with_chosen with_state state_chosen
    made p r o a = left_step c p o a (is_counted c y s p r) (has_left c y s p r)

    outcome_left : {e : Event} {o : Output} {v : Configuration} → EventOutcome z s.fits.configuration e o v → NoStart e o → (q : ℕ)
        → steps_left (count c e o) q ≤ steps_left c q
    outcome_left (start_refused p call tag r other) none q = left_refused c (starts p call tag) r q
    outcome_left (call_started p call tag n lt a) none q = absurd none
    outcome_left (step_refused p r a other) none q = left_refused c (steps p) r q
    outcome_left (none_free p a h) none q = left_refused c (steps p) NoRecord q
    outcome_left (made-step p lt r (went_on {n = n} g x line) at) none q = made p r (Ok (At n)) tt q
    outcome_left (made-step p lt r (call_ended {a = a} g x {full = full}) at) none q = made p r (Ok (End a _ full)) tt q
    outcome_left (made-step p lt r (resize_ended a g line moved {full = full}) at) none q = made p r (Ok (End a _ full)) tt q

    total_stays : (e : Event) → NoStart e (event y e).out
        → total (steps_left (count c e (event y e).out)) (task_count y) ≤ total (steps_left c) (task_count y)
    total_stays e none =
        let out = ap (λ (r : Reply). r.out) (same_event l y s.beside e) in
        let t = event_simulated z s.fits.configuration s.fits.reach s.fits.sim e in
        rw out at (total_le _ (steps_left c) (outcome_left t.outcome (rw out none)) (task_count y))

    -- where nothing runs nothing is left
    none_left : ((k : ℕ) → k < task_count y → (task_of y k).running ≡ false) → total (steps_left c) (task_count y) ≤ 0
    unfolding steps_left task_of with_chosen with_state state_chosen
    none_left all =
        let none = total_most (steps_left c) 0 (task_count y) (λ q lt. rw (sym (running_is 1 c z s.fits q) ∙ all q lt) (omega arith)) in
        omega arith

    -- the step of a running task is accepted
    module _ (k : ℕ) (r : (task_of y k).running ≡ true) where
      out_same : (event z (steps k)).out ≡ (event y (steps k)).out
      out_same = ap (λ (r : Reply). r.out) (same_event l y s.beside (steps k))

      is_accepted : (o : Output) → (event y (steps k)).out ≡ o → Accepted o
      is_accepted (Ok (At n)) e = tt
      is_accepted (Ok (End a own full)) e = tt
      is_accepted (Err n) e =
          let at : RefusedWith7 c (steps k) (Err n) = rw (out_same ∙ e) at (event_kept 1 c z s.fits (steps k)).1 in
          let is_7 = at (is_counted c y s k r) in
          event_not_7 z s.enough (steps k) (out_same ∙ e ∙ ap Err is_7)

      turn_going : (o : Output) (x : Machine) → Next y k → (step y k).out ≡ o → (step y k).machine ≡ x
          → Going l (count c (steps k) o) (with_chosen k x)
      unfolding event with_chosen with_state state_chosen
      turn_going o x n f e =
          let g : Going l (count c (steps k) o) x = rw (f, e) at (event_going c y s (steps k) tt) in
          record { beside = beside_turn l y s.beside k x n e; fits = g.fits; few = g.few; enough = g.enough }

  ends_by : (ms : List Move) (c : ℕ → CallCount) (y : Machine) → Going l c y
      → NobodyStarts (stands_for ms (moves y ms).says) (outputs (moves y ms).says) → (p : ℕ) → (task_of (moves y ms).machine p).running ≡ true
      → turn_count ms < total (steps_left c) (task_count y)
  unfolding event moves move stands_for outputs turn_count with_chosen with_state state_chosen
  ends_by [] c y s none p r = some_left c y s p r
  ends_by (enters e ∷ ms) c y s none p r =
      let ih = ends_by ms (count c e (event y e).out) (event y e).machine (event_going c y s e none.0) none.1 p r in
      let less = total_stays c y s e none.0 in
      let tasks = event_tasks y e in
      let t : turn_count ms < total (steps_left (count c e (event y e).out)) (task_count y) = rw tasks at ih in
      omega arith
  ends_by (turns ∷ ms) c y s none p r = go (turn_outcome y) none r (ends_by ms)
    where
      go : {m : Turned} → TurnOutcome y m
          → NobodyStarts (stands_for (turns ∷ ms) (turned m.says ∷ (moves m.machine ms).says)) (outputs (turned m.says ∷ (moves m.machine ms).says))
          → (task_of (moves m.machine ms).machine p).running ≡ true
          → ((c : ℕ → CallCount) (z : Machine) → Going l c z → NobodyStarts (stands_for ms (moves z ms).says) (outputs (moves z ms).says)
          → (p : ℕ) → (task_of (moves z ms).machine p).running ≡ true → turn_count ms < total (steps_left c) (task_count z))
          → suc (turn_count ms) < total (steps_left c) (task_count y)
      go (spoilt u) none r ih = absurd (tf s.beside.ok u)
      go (nothing_runs u all) none r ih =
          let more = ih c y s none p r in
          let less = none_left c y s (λ k lt. (all k lt).1) in
          absurd (omega arith)
      go (step_spoilt k u n f) none r ih = absurd (is_accepted c y s k n.runs (Err Spoilt) f)
      go (goes k o z u n f x only) none r ih =
          let tasks = step_tasks y k z x in
          let more = ih (count c (steps k) o) (with_chosen k z) (turn_going c y s k n.runs o z n f x) none.1 p r in
          let t : turn_count ms < total (steps_left (count c (steps k) o)) (task_count y) = rw tasks at more in
          let less = total_falls c y s k n.runs o (is_accepted c y s k n.runs o f) in
          omega arith

-- ---- the promise

module _ (g : Config) (ns bs : List ℕ) (ok : (opening g ns bs).refusal ≡ 0) (enough : Enough g ns bs) (before : List Move) where
  abbrev y₀ : Machine
  y₀ = (opening g ns bs).machine

  abbrev y : Machine
  y = (run_of g ns bs before).machine

  abbrev last : ℕ
  last = g.tasks - 1

  -- the schedule that the moves until now stand for, and what is counted in it
  abbrev es : List Event
  es = stands_for before (run_of g ns bs before).says

  counted : ℕ → CallCount
  counted = counts none_begun es (outputs (run_of g ns bs before).says)

  ran : run y₀ es ≡ record { outs = outputs (run_of g ns bs before).says; machine = with_chosen last y }
  ran = sym (schedule_runs g ns bs ok es) ∙ is_schedule g ns bs ok before

  fits_now : CountsFit 0 counted (with_chosen last y)
  unfolding counted
  fits_now = rw ran at (run_kept 0 none_begun y₀ (opening_fits g ns bs ok) es).0

  going_now : Going last (anew counted) y
  unfolding with_chosen with_state state_chosen
  going_now = record {
    beside = record { ok = sound_run g ns bs ok before; below = (sound_facts (with_chosen last y) fits_now.sim.sound_now).chosen };
    fits = fits_anew counted (with_chosen last y) fits_now;
    few = anew_few counted;
    enough = rw ran at (run_enough y₀ (enough_at_opening g ns bs ok enough) es);
  }

  tasks_now : task_count y ≡ g.tasks
  unfolding run_of
  tasks_now = moves_tasks before y₀ ∙ opened_tasks g ns bs ok

pub ends_by_turns : (g : Config) (ns bs : List ℕ) → (opening g ns bs).refusal ≡ 0 → Enough g ns bs → EndsByTurns g ns bs
ends_by_turns g ns bs ok enough before after none many p = go (bool? (task_of (moves now after).machine p).running)
  where
    now : Machine
    now = (run_of g ns bs before).machine

    go : ((task_of (moves now after).machine p).running ≡ true) ⊎ ((task_of (moves now after).machine p).running ≡ false)
        → (task_of (moves now after).machine p).running ≡ false
    go (inr r) = r
    go (inl r) =
        let c = anew (counted g ns bs ok enough before) in
        let few = ends_by (g.tasks - 1) after c now (going_now g ns bs ok enough before) none p r in
        let most = total_most (steps_left c) 292 (task_count now) (λ q lt. left_most c q) in
        let tasks = tasks_now g ns bs ok enough before in
        absurd (omega arith)
