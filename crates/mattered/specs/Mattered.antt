-- The step that mattered (paper 02, U13): `mattered`, of a machine and a list of events. Assumes nothing.
use Rattle.std.specs.Prelude.{ℕ, zero, suc, List, [], ◌∷◌, Bool, true, false, not, ◌&&◌, length, if◌then◌else◌}
use Rattle.spec.specs.Machine.{Machine}
use Rattle.spec.specs.Schedule.{Event, starts, steps}
use Rattle.mattered.specs.declared.Verdict.{Verdict}
use Rattle.mattered.specs.declared.Verdict.TheVariants.{Place, NoStep}
use Rattle.mattered.specs.EndedCalls.{ended_calls, same_calls}

-- "step event", accepted or refused
unfoldable pub is_step : Event → Bool
is_step (starts k call tag) = false
is_step (steps k) = true

-- the event at place i, from 0, is a step
unfoldable pub step_at : ℕ → List Event → Bool
step_at i [] = false
step_at zero (e ∷ es) = is_step e
step_at (suc i) (e ∷ es) = step_at i es

-- "omission": all events but the one at place i, from 0
unfoldable pub without : ℕ → List Event → List Event
without i [] = []
without zero (e ∷ es) = es
without (suc i) (e ∷ es) = e ∷ without i es

-- "step event whose omission alters the list of ended calls": the one at place i, from 0
unfoldable pub alters : Machine → List Event → ℕ → Bool
alters y es i = step_at i es && not (same_calls (ended_calls y (without i es)) (ended_calls y es))

-- the first of n places from i on at which the test passes, counted "from 1"
unfoldable pub first_place : (ℕ → Bool) → ℕ → ℕ → Verdict
first_place f i zero = NoStep
first_place f i (suc n) =
    let later = first_place f (suc i) n in
    if f i then Place (suc i) else later

-- "find the earliest step event whose omission alters the list of ended calls ... It is given as its place among the events, from 1. If
-- no single omission does so, it says none."
unfoldable pub mattered : Machine → List Event → Verdict
mattered y es = first_place (alters y es) 0 (length es)
