-- What rows of schedules are made of; longer schedules are in the crate `coop_cases`. Assumes nothing.
use Rattle.std.specs.Prelude.{ℕ, List, ◌∷◌, replicate}
use Rattle.coop_spec.specs.declared.Call.{Call}
use Rattle.coop_spec.specs.Schedule.{Event, starts, steps}

-- n steps of task k
unfoldable pub stepping : ℕ → ℕ → List Event
stepping k n = replicate n (steps k)

-- task k's call with an operation and a tag, and n steps of it
unfoldable pub calling : ℕ → Call → ℕ → ℕ → ℕ → List Event
calling k call op tag n = starts k call op tag ∷ stepping k n
