-- The planner's figures against a run of the definitions, computed: resizes with calls between, so that places are filled by an insert or a
-- remove, by a resize, and not at all; version 2; and the refusals. Assumes nothing.
use Rattle.std.specs.Prelude.{ℕ, ◌≡◌, refl, List, [], ◌∷◌, ◌++◌, replicate}
use Rattle.spec.specs.declared.Answer.TheVariants.{Yes, No, Done, Limit}
use Rattle.spec.specs.declared.Call.TheVariants.{Insert, Remove, Contains, Grow, Shrink}
use Rattle.spec.specs.Schedule.{Event, starts, steps, schedule}
use Rattle.spec.specs.Everything.{everything}
use Rattle.plans.specs.declared.Planned.{Planned}
use Rattle.plans.specs.declared.Figures.{Figures}
use Rattle.plans.specs.Plan.{call_of, figures, opened_for, fresh, fill_steps, place_steps, places_steps, empty_places}
use Rattle.plans.specs.Plan.{update_figures, contains_figures, resize_figures, call_figures, after_update, after_resize, after_call}
use Rattle.plans.specs.Plan.{all_figures, planned, refused, plan}
use Rattle.plans.specs.Run.{figures_run}

-- one name that opens every definition of the planner
unfoldable pub planning : ℕ
unfolding everything fresh fill_steps place_steps places_steps empty_places update_figures contains_figures resize_figures call_figures
    after_update after_resize after_call all_figures plan
planning = 0

-- the events of a plan, with as many steps for a call as the plan says
unfoldable pub stepped_as_planned : List Planned → List Figures → List Event
stepped_as_planned [] fs = []
stepped_as_planned (c ∷ cs) [] = []
stepped_as_planned (c ∷ cs) (f ∷ fs) = starts 0 c.call c.tag ∷ replicate f.own (steps 0) ++ stepped_as_planned cs fs

-- ---- version 1

unfoldable pub calls : List Planned
calls =
    call_of Insert 17 ∷ call_of Grow 0 ∷ call_of Contains 17 ∷ call_of Contains 17 ∷ call_of Remove 17 ∷ call_of Contains 17
    ∷ call_of Insert 6 ∷ call_of Grow 0 ∷ call_of Remove 3 ∷ call_of Shrink 0 ∷ call_of Insert 6 ∷ call_of Shrink 0
    ∷ call_of Grow 9 ∷ call_of Insert 8 ∷ call_of Shrink 0 ∷ call_of Shrink 0 ∷ []

unfoldable pub their_figures : List Figures
their_figures =
    figures Yes 3 0 ∷ figures Done 7 0 ∷ figures Yes 5 0 ∷ figures Yes 5 0 ∷ figures Yes 10 1 ∷ figures No 3 0
    ∷ figures Yes 10 1 ∷ figures Done 10 0 ∷ figures No 10 1 ∷ figures Done 28 3 ∷ figures No 12 1 ∷ figures Done 16 1
    ∷ figures Done 13 1 ∷ figures Yes 10 1 ∷ figures Done 14 1 ∷ figures Limit 1 0 ∷ []

pub planned_figures : plan 1 calls ≡ planned their_figures
unfolding planning calls their_figures
planned_figures = refl

-- a run of these events gives them, with 4 nodes and 12 buckets, enough for these calls
pub run_figures : figures_run 0 (schedule (opened_for 1 1) (replicate 136 7) (replicate 792 7) (stepped_as_planned calls their_figures)).outs
    ≡ their_figures
unfolding everything calls their_figures stepped_as_planned figures_run
run_figures = refl

-- ---- version 2, and the refusals

unfoldable pub calls_2 : List Planned
calls_2 = call_of Grow 0 ∷ call_of Insert 17 ∷ call_of Contains 8 ∷ call_of Contains 19 ∷ []

-- tags 17 and 19 go to place 1 of 2, tag 8 to place 0
pub planned_2 : plan 2 calls_2 ≡ planned (figures Done 7 0 ∷ figures Yes 10 1 ∷ figures No 5 0 ∷ figures No 3 0 ∷ [])
unfolding planning calls_2
planned_2 = refl

pub sixty_four : plan 1 (replicate 64 (call_of Contains 0)) ≡ planned (replicate 64 (figures No 3 0))
unfolding planning
sixty_four = refl

pub too_long : plan 2 (replicate 65 (call_of Contains 0)) ≡ refused 9
unfolding planning
too_long = refl

pub other_version : plan 3 (replicate 65 (call_of Contains 0)) ≡ refused 11
unfolding planning
other_version = refl
