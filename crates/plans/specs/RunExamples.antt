-- Examples for "Its figures equal those of the run.": what a reader takes from told outputs, what the promise says of one plan, tags whose places
-- differ between the versions, and lists given as arrays. Runs that a plan does not fit: proofs/RunExamples. Assumes nothing.
use Rattle.std.specs.Prelude.{ℕ, ◌≡◌, refl, List, [], ◌∷◌, map, length, take, drop, replicate, Ok, Err}
use Rattle.spec.specs.declared.Refusal.TheVariants.{Idle, NoRecord}
use Rattle.spec.specs.declared.Answer.TheVariants.{Yes, No, Done}
use Rattle.spec.specs.declared.Call.TheVariants.{Insert, Remove, Contains, Grow}
use Rattle.spec.specs.Outputs.{Output}
use Rattle.spec.specs.declared.Progress.TheVariants.{At}
use Rattle.spec.specs.Schedule.{starts, steps, schedule}
use Rattle.spec.specs.Rows.{ended, counted}
use Rattle.plans.specs.declared.Planned.{Planned}
use Rattle.plans.specs.Plan.{call_of, figures, opened_for, planned, plan, list_of, figures_array}
use Rattle.plans.specs.Run.{calls_alone, figures_run, PlanIsRun}
use Rattle.plans.specs.Rows.{planning}

-- ---- what is taken from a run

-- a bucket for each 50 since the call's start and for no other line; 7 before the end and 6 after it tell nothing; one call still runs
unfoldable pub told : List Output
told =
    Ok (At 20) ∷ Ok (At 49) ∷ Ok (At 50) ∷ Ok (At 51) ∷ Err NoRecord ∷ Ok (At 50) ∷ ended Done 9 ∷ Err Idle ∷ Ok (At 32) ∷ Ok (At 40) ∷ counted No 3 1 ∷ Ok (At 32) ∷ Ok (At 50) ∷ Ok (At 36)
    ∷ counted Yes 10 1 ∷ Ok (At 12) ∷ Ok (At 50) ∷ []

pub told_figures : figures_run 0 told ≡ figures Done 9 2 ∷ figures No 3 0 ∷ figures Yes 10 1 ∷ []
unfolding figures_run told
told_figures = refl

-- a call is started once, by its task, with its tag, and stepped 292 times; and then the next
pub alone_rows :
    (length (calls_alone 1 (call_of Insert 5 ∷ call_of Grow 0 ∷ [])) ≡ 586)
    × (take 2 (calls_alone 1 (call_of Insert 5 ∷ call_of Grow 0 ∷ [])) ≡ starts 1 Insert 5 ∷ steps 1 ∷ [])
    × (take 3 (drop 292 (calls_alone 1 (call_of Insert 5 ∷ call_of Grow 0 ∷ []))) ≡ steps 1 ∷ starts 1 Grow 0 ∷ steps 1 ∷ [])
unfolding calls_alone
alone_rows = (refl, refl, refl)

-- ---- a reading, what the promise says of a plan: the run's figures are these, one for one

pub insert_and_grow : (ns bs : List ℕ) → PlanIsRun 2 1 ns bs 1 (call_of Insert 5 ∷ call_of Grow 0 ∷ [])
    → figures_run 0 (schedule (opened_for 2 1) ns bs (calls_alone 1 (call_of Insert 5 ∷ call_of Grow 0 ∷ []))).outs
    ≡ figures Yes 3 0 ∷ figures Done 7 0 ∷ []
unfolding planning
insert_and_grow ns bs p = p (figures Yes 3 0 ∷ figures Done 7 0 ∷ []) refl

-- ---- tags whose places differ between the versions: of two places tag 10 has 0 in version 1, 1 in version 2; 15 has 1 in both; 25 has 1, then 0

unfoldable pub calls_apart : List Planned
calls_apart = call_of Grow 0 ∷ call_of Insert 10 ∷ call_of Contains 15 ∷ call_of Contains 25 ∷ call_of Remove 10 ∷ []

pub apart :
    (plan 1 calls_apart ≡ planned (figures Done 7 0 ∷ figures Yes 10 1 ∷ figures No 5 0 ∷ figures No 5 0 ∷ figures Yes 3 0 ∷ []))
    × (plan 2 calls_apart ≡ planned (figures Done 7 0 ∷ figures Yes 10 1 ∷ figures No 3 0 ∷ figures No 5 0 ∷ figures Yes 3 0 ∷ []))
unfolding planning calls_apart
apart = (refl, refl)

-- ---- a list given as an array of 64 calls and a count

-- so many of its calls; a count over 64 is a longer list
pub lists :
    map (λ n. length (list_of (record { call = replicate 64 (call_of Grow 0); count = n }))) (0 ∷ 1 ∷ 64 ∷ 65 ∷ 4294967295 ∷ []) ≡ 0 ∷ 1 ∷ 64 ∷ 65 ∷ 65 ∷ []
unfolding list_of
lists = refl

pub first_two :
    list_of (record { call = call_of Grow 0 ∷ call_of Insert 5 ∷ replicate 62 (call_of Contains 7); count = 2 }) ≡ call_of Grow 0 ∷ call_of Insert 5 ∷ []
unfolding list_of
first_two = refl

-- the figures, and figures of nothing up to 64
pub arrays :
    (figures_array (figures Done 7 0 ∷ []) ≡ figures Done 7 0 ∷ replicate 63 (figures No 0 0)) × (length (figures_array (replicate 64 (figures Done 7 0))) ≡ 64)
unfolding figures_array
arrays = (refl, refl)
