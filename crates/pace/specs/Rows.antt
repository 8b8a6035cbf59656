-- What is counted of one event, an insert's number of steps, what is a start, and a shrink of 228 steps: rows that the must-fail edits break. All
-- other rows and whole schedules are in the crate `pace_cases`. Assumes nothing.
use Rattle.std.specs.Prelude.{ℕ, zero, suc, ◌≤◌, ◌≡◌, refl, List, [], ◌∷◌, ◌++◌, map, replicate, None, Ok, Err}
use Rattle.std.proofs.Common.{ap, ◌∙◌, arith, ne_eqb}
use Rattle.std.proofs.Math.Decide.{ℕ_discrete}
use Rattle.spec.specs.declared.Refusal.TheVariants.{Running}
use Rattle.spec.specs.declared.Answer.TheVariants.{Yes, No, Full, Done, Lost, Limit}
use Rattle.spec.specs.declared.Call.TheVariants.{Insert, Shrink}
use Rattle.spec.specs.Outputs.{Output}
use Rattle.spec.specs.declared.Progress.TheVariants.{At, End}
use Rattle.spec.specs.Schedule.{Event, starts, steps}
use Rattle.pace.specs.StepCounts.{CallCount, begun, stepped, done_with, beside_end, count, counts, none_begun, anew}
use Rattle.pace.specs.StepCounts.{most_steps, StepsWithin, NobodyStarts, EndsWithin292}

-- one name that opens every definition of the counting
unfoldable pub counting : ℕ
unfolding begun stepped done_with beside_end count counts none_begun anew
counting = 0

-- task 0's insert runs and task 1's call ends: one that ends done is counted for the insert, any other is not
pub resizes_beside :
    map (λ a. (count (λ q. begun Insert) (steps 1) (Ok (End a 7 None)) 0).resizes) (Done ∷ Lost ∷ Limit ∷ Yes ∷ No ∷ Full ∷ []) ≡ 1 ∷ 0 ∷ 0 ∷ 0 ∷ 0 ∷ 0 ∷ []
unfolding counting
resizes_beside = refl

-- "at most 12 × (1 + R)" of an insert, with no resize done meanwhile and with one
pub insert_steps : map (most_steps Insert) (0 ∷ 1 ∷ []) ≡ 12 ∷ 24 ∷ []
insert_steps = refl

-- a refused start is none, an accepted one is
pub refused_start : NobodyStarts (starts 0 Insert 5 ∷ steps 1 ∷ []) (Err Running ∷ Ok (At 33) ∷ []) × (¬ NobodyStarts (starts 0 Insert 5 ∷ []) (Ok (At 32) ∷ []))
refused_start = ((tt, (tt, tt)), λ n. n.0)

-- ---- a shrink of 228 steps, which a run has (`shrink_of_228`, pace_cases), is allowed by both numbers: told from its start, with no other start

abbrev goes_on : ℕ → List Event
goes_on n = replicate n (steps 0) ++ steps 0 ∷ []

abbrev at_last : ℕ → List Output
at_last n = replicate n (Ok (At 40)) ++ Ok (End Done 228 None) ∷ []

pub its_last_step : StepsWithin (counts (λ q. begun Shrink) (replicate 227 (steps 0)) (replicate 227 (Ok (At 40)))) (steps 0 ∷ []) (Ok (End Done 228 None) ∷ [])
unfolding counting
its_last_step = (omega arith, tt)

not_counted : (n : ℕ) (c : ℕ → CallCount) (q : ℕ) → ¬ (q ≡ 0) → (counts c (goes_on n) (at_last n) q).accepted ≡ (c q).accepted
unfolding counts count beside_end
not_counted zero c q d = rw (ne_eqb q 0 d)
not_counted (suc n) c q d = not_counted n (count c (steps 0) (Ok (At 40))) q d ∙ rw (ne_eqb q 0 d)

unfoldable from_its_start : ℕ → CallCount
from_its_start q = counts (anew (λ r. begun Shrink)) (goes_on 227) (at_last 227) q

all_counted : (from_its_start 0).accepted ≡ 228
unfolding counting from_its_start
all_counted = refl

at_most_228 : (p : ℕ) → Dec (p ≡ 0) → (from_its_start p).accepted ≤ 228
unfolding from_its_start anew
at_most_228 p (yes e) = let a = ap (λ (q : ℕ). (from_its_start q).accepted) e ∙ all_counted in omega arith
at_most_228 p (no n) = let a = not_counted 227 (anew (λ r. begun Shrink)) p n in omega arith

pub its_end : EndsWithin292 (λ q. begun Shrink) (goes_on 227) (at_last 227)
unfolding from_its_start
its_end p = let a = at_most_228 p (ℕ_discrete p 0) in (omega arith, λ r. omega arith)
