-- "If nobody starts a new call, each running call ends at the latest with its 292nd further accepted step": counted anew from some event
-- on, an insert or remove makes at most 12 × (1 + R + 1) further steps, one pass more than R allows, since the one under way may be at an
-- older node. With no new call, each resize that is done is one of at most 8 running calls less, so R is at most 8, and 12 × 10 is below
-- the 292 that a resize may make. Assumes nothing.
use Rattle.std.specs.Prelude.{◌≡◌, refl, Bool, true, false, List, [], ◌∷◌, eqb, if◌then◌else◌, Option, ℕ, Ok}
use Prim.Native.Nat.{ℕ, ◌+◌, ◌-◌, min, ◌≤◌, ◌<◌}
use Rattle.std.proofs.Math.Decide.{ℕ_discrete}
use Rattle.std.proofs.Common.{arith, eq-eqb, ne_eqb}
use Rattle.spec.specs.declared.Answer.{Answer}
use Rattle.spec.specs.declared.Answer.TheVariants as Answers
use Rattle.spec.specs.declared.Call.{Call}
use Rattle.spec.specs.declared.Call.TheVariants.{Insert, Remove, Contains, Grow, Shrink}
use Rattle.spec.specs.Outputs.{Output}
use Rattle.spec.specs.declared.Progress.TheVariants as Outs
use Rattle.spec.specs.Machine.{Machine, task_of}
use Rattle.spec.specs.Schedule.{Event, steps, event, run}
use Rattle.model.specs.Heap.{Heap}
use Rattle.model.specs.Positions.{Position}
use Rattle.model.specs.Runs.{Configuration}
use Rattle.linear.specs.StepSimulated.{went_on, call_ended, resize_ended}
use Rattle.linear.specs.EventOutcomes.{EventOutcome, start_refused, call_started, step_refused, none_free, stepped as made-step}
use Rattle.linear.proofs.EventOutcomes.{event_simulated}
use Rattle.pace.specs.StepCounts.{CallCount, stepped, done_with, beside_end, count, counts, anew, most_steps, NoStart, NobodyStarts, EndsWithin292}
use Rattle.pace.specs.Totals.{total, total_most, total_le, total_less}
use Rattle.pace.specs.CountFits.{RunningFits, Fits, not_running, is_running}
use Rattle.pace.specs.CountsKept.{CountsFit}
use Rattle.pace.proofs.CountsKept.{running_fits, event_kept, run_kept, within_most_steps}

-- ---- counted anew: the base is one behind the head
running_anew : {h : Heap} (l : Position) (c : CallCount) → RunningFits 0 h l c
    → RunningFits 1 h l (record { call = c.call; running = c.running; accepted = 0; resizes = 0 })
running_anew {h} l c t =
    record {
      base = h.head - 1;
      base_reached = omega arith;
      moved_by = omega arith;
      paced = record { is_call = t.paced.is_call; made = omega arith; behind_moved = λ x n lt. omega arith };
    }

none_made : (c : Call) (r : ℕ) → 0 ≤ most_steps c r
none_made c r = omega arith

pub fits_anew : (c : ℕ → CallCount) (y : Machine) → CountsFit 0 c y → CountsFit 1 (anew c) y
unfolding anew
fits_anew c y s = record { configuration = s.configuration; reach = s.reach; sim = s.sim; fits = λ q. go q (s.fits q) }
  where
    go : (q : ℕ) → Fits 0 s.configuration.heap (s.configuration.position q) (c q)
        → Fits 1 s.configuration.heap (s.configuration.position q) (anew c q)
    go q (not_running a b m) = not_running a b (none_made (c q).call 1)
    go q (is_running b t) = is_running b (running_anew (s.configuration.position q) (c q) t)

-- ---- while nobody starts a call, each resize that is done is one running call less: no more than 8 are done

unfoldable pub runs_one : (ℕ → CallCount) → ℕ → ℕ
runs_one c q = if (c q).running then 1 else 0

abbrev pub FewDone : (ℕ → CallCount) → Type 0
FewDone c = (q : ℕ) → (c q).resizes + total (runs_one c) 8 ≤ 8

at_most_one : (c : ℕ → CallCount) (q : ℕ) → runs_one c q ≤ 1
unfolding runs_one
at_most_one c q = go (c q).running
  where
    go : (b : Bool) → (if b then 1 else 0) ≤ 1
    go true = omega arith
    go false = omega arith

-- as many run as before, or fewer
runs_same : (c d : ℕ → CallCount) → ((q : ℕ) → (d q).running ≡ (c q).running) → (q : ℕ) → runs_one d q ≤ runs_one c q
unfolding runs_one
runs_same c d same q = rw (same q) (omega arith)

pub anew_few : (c : ℕ → CallCount) → FewDone (anew c)
unfolding anew
anew_few c q = let m = total_most (runs_one (anew c)) 1 8 (λ q lt. at_most_one (anew c) q) in omega arith

done_at_most_one : (a : Answer) → done_with a ≤ 1
unfolding done_with
done_at_most_one Answers.Yes = omega arith
done_at_most_one Answers.No = omega arith
done_at_most_one Answers.Full = omega arith
done_at_most_one Answers.Done = omega arith
done_at_most_one Answers.Lost = omega arith
done_at_most_one Answers.Limit = omega arith

module _ (c : ℕ → CallCount) (few : FewDone c) (p : ℕ) where
  step_few : (l : ℕ) → (c p).running ≡ true → FewDone (count c (steps p) (Ok (Outs.At l)))
  unfolding count stepped
  step_few l runs q = go (ℕ_discrete q p)
    where
      d : ℕ → CallCount
      d = count c (steps p) (Ok (Outs.At l))

      same : (q : ℕ) → Dec (q ≡ p) → (if eqb q p then stepped true (c q) else c q).running ≡ (c q).running
      same q (yes u) = let b : (c q).running ≡ true = rw u runs in rw (eq-eqb q p u, b)
      same q (no n) = rw (ne_eqb q p n)

      fewer : total (runs_one d) 8 ≤ total (runs_one c) 8
      fewer = total_le (runs_one d) (runs_one c) (runs_same c d (λ q. same q (ℕ_discrete q p))) 8

      go : Dec (q ≡ p) → (if eqb q p then stepped true (c q) else c q).resizes + total (runs_one d) 8 ≤ 8
      go (yes u) = let f = few q in let l = fewer in rw (eq-eqb q p u) (omega arith)
      go (no n) = let f = few q in let l = fewer in rw (ne_eqb q p n) (omega arith)

  end_few : (a : Answer) (own : ℕ) (full : Option ℕ) → p < 8 → (c p).running ≡ true → FewDone (count c (steps p) (Ok (Outs.End a own full)))
  unfolding count stepped beside_end runs_one
  end_few a own full lt runs q = go (ℕ_discrete q p)
    where
      d : ℕ → CallCount
      d = count c (steps p) (Ok (Outs.End a own full))

      at_p : runs_one d p < runs_one c p
      at_p = rw (eq-eqb p p refl, runs) (omega arith)

      fewer : (q : ℕ) → Dec (q ≡ p) → runs_one d q ≤ runs_one c q
      fewer q (yes u) = rw (eq-eqb q p u) (omega arith)
      fewer q (no n) = rw (ne_eqb q p n) (omega arith)

      less : total (runs_one d) 8 < total (runs_one c) 8
      less = total_less (runs_one d) (runs_one c) (λ q. fewer q (ℕ_discrete q p)) p at_p 8 lt

      go : Dec (q ≡ p) → (if eqb q p then stepped false (c q) else beside_end a (c q)).resizes + total (runs_one d) 8 ≤ 8
      go (yes u) = let f = few q in let l = less in rw (eq-eqb q p u) (omega arith)
      go (no n) = let f = few q in let l = less in let m = done_at_most_one a in rw (ne_eqb q p n) (omega arith)

pub event_few : (slack : ℕ) (c : ℕ → CallCount) (y : Machine) (s : CountsFit slack c y) → FewDone c
    → {ev : Event} {o : Output} {v : Configuration} → EventOutcome y s.configuration ev o v → NoStart ev o → FewDone (count c ev o)
unfolding count
event_few slack c y s few (start_refused p call tag r other) n = few
event_few slack c y s few (call_started p call tag l lt a) n = absurd n
event_few slack c y s few (step_refused p r a other) n = few
event_few slack c y s few (none_free p a h) n = few
event_few slack c y s few (made-step p lt r (went_on {n = l} g x line) at) n = step_few c few p l (running_fits slack c y s p r).0
event_few slack c y s few (made-step p lt r (call_ended {a = a} g x {full = full}) at) n =
    end_few c few p a (min ((task_of y p).own + 1) 65535) full lt (running_fits slack c y s p r).0
event_few slack c y s few (made-step p lt r (resize_ended a g line moved {full = full}) at) n =
    end_few c few p a (min ((task_of y p).own + 1) 65535) full lt (running_fits slack c y s p r).0

run_few : (slack : ℕ) (c : ℕ → CallCount) (y : Machine) → CountsFit slack c y → FewDone c → (es : List Event)
    → NobodyStarts es (run y es).outs → FewDone (counts c es (run y es).outs)
unfolding run counts
run_few slack c y s few [] n = few
run_few slack c y s few (ev ∷ es) n =
    let t = event_simulated y s.configuration s.reach s.sim ev in
    run_few slack (count c ev (event y ev).out) (event y ev).machine (event_kept slack c y s ev).0
    (event_few slack c y s few t.outcome n.0) es n.1

-- ---- so no call makes more than 292 steps

most_with_eight : (c : Call) (r : ℕ) → r ≤ 8 → most_steps c (r + 1) ≤ 292
most_with_eight Insert r h = omega arith
most_with_eight Remove r h = omega arith
most_with_eight Contains r h = omega arith
most_with_eight Grow r h = omega arith
most_with_eight Shrink r h = omega arith

pub few_steps : (c : ℕ → CallCount) (y : Machine) → CountsFit 1 c y → FewDone c → (p : ℕ)
    → ((c p).accepted ≤ 292) × ((c p).running ≡ true → (c p).accepted < 292)
few_steps c y s few p =
    let w = within_most_steps 1 c y s p in
    let f = few p in
    let m = most_with_eight (c p).call (c p).resizes (omega arith) in
    (omega (arith, w.0, m), λ q. omega (arith, w.1 q, m))

-- the claim, of a run from a machine whose counts fit
pub ends_within_292 : (c : ℕ → CallCount) (y : Machine) → CountsFit 0 c y → (es : List Event) → NobodyStarts es (run y es).outs
    → EndsWithin292 c es (run y es).outs
ends_within_292 c y fits es n =
    let s = fits_anew c y fits in
    few_steps (counts (anew c) es (run y es).outs) (run y es).machine (run_kept 1 (anew c) y s es).0 (run_few 1 (anew c) y s (anew_few c) es n)
