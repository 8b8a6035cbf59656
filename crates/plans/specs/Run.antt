-- A list of calls as one task makes them alone, each run to its end, and what a reader takes from the outputs of that run. "Its figures
-- equal those of the run." is the type PlanIsRun. Proved in the crate plan_laws. Assumes nothing.
use Rattle.std.specs.Prelude.{ℕ, suc, ◌≡◌, List, [], ◌∷◌, ◌++◌, eqb, replicate, if◌then◌else◌, Ok, Err}
use Rattle.spec.specs.Outputs.{Output}
use Rattle.spec.specs.declared.Progress.TheVariants.{At, End}
use Rattle.spec.specs.Schedule.{Event, starts, steps, schedule}
use Rattle.plans.specs.declared.Planned.{Planned}
use Rattle.plans.specs.declared.Figures.{Figures}
use Rattle.plans.specs.Plan.{figures, opened_for, planned, plan}

-- task p starts each call and is stepped 292 times, which is more than a call ever takes; steps after its end are refused with 6
unfoldable pub calls_alone : ℕ → List Planned → List Event
calls_alone p [] = []
calls_alone p (c ∷ cs) = starts p c.call c.tag ∷ replicate 292 (steps p) ++ calls_alone p cs

-- each call's answer and own steps, as the step that ends it says them, and a bucket record for each `At 50` since its start, b of them until
-- now: "49 takes a new changeable bucket", and goes on to 50, to which no other line leads (`at_50_tells`, plan_laws)
unfoldable pub figures_run : ℕ → List Output → List Figures
figures_run b [] = []
figures_run b (Ok (At l) ∷ os) = figures_run (if eqb l 50 then suc b else b) os
figures_run b (Ok (End a own full) ∷ os) = figures a own b ∷ figures_run 0 os
figures_run b (Err r ∷ os) = figures_run b os

-- of T tasks, a version, what the two slices held, one of the tasks, and a list
abbrev pub PlanIsRun : ℕ → ℕ → List ℕ → List ℕ → ℕ → List Planned → Type 0
PlanIsRun t version ns bs p cs =
    (fs : List Figures) → plan version cs ≡ planned fs → figures_run 0 (schedule (opened_for t version) ns bs (calls_alone p cs)).outs ≡ fs
