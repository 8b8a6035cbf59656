-- Paper 02, U12: how many accepted steps a call makes, as types, told from the events of a schedule and their outputs alone. Own steps
-- cannot serve: they stay at 65,535. Proved in Theorems; what is counted in a few schedules is in the crate `pace_cases`. Assumes nothing.
use Rattle.std.specs.Prelude.{ℕ, suc, ◌+◌, ◌*◌, ◌≤◌, ◌<◌, ◌≡◌, List, [], ◌∷◌, Bool, true, false, eqb, if◌then◌else◌, Ok, Err}
use Rattle.spec.specs.declared.Refusal.TheVariants.{NoRecord}
use Rattle.spec.specs.declared.Answer.{Answer}
use Rattle.spec.specs.declared.Answer.TheVariants.{Yes, No, Full, Done, Lost, Limit}
use Rattle.spec.specs.declared.Call.{Call}
use Rattle.spec.specs.declared.Call.TheVariants.{Insert, Remove, Contains, Grow, Shrink}
use Rattle.spec.specs.Outputs.{Output}
use Rattle.spec.specs.declared.Progress.TheVariants.{At, End}
use Rattle.spec.specs.Schedule.{Event, starts, steps}

-- ---- a task's last started call

pub record CallCount : Type 0 where
  pub call : Call
  -- it has not ended
  pub running : Bool
  -- its accepted steps, the one that ended it among them
  pub accepted : ℕ
  -- R, "the number of resizes that ended done between its start and its end, or until now while it runs": since its start
  pub resizes : ℕ

-- after its accepted start; after an accepted step more, which leaves it running or not
unfoldable pub begun : Call → CallCount
begun call = record { call = call; running = true; accepted = 0; resizes = 0 }

unfoldable pub stepped : Bool → CallCount → CallCount
stepped runs c = record { call = c.call; running = runs; accepted = suc c.accepted; resizes = c.resizes }

-- after the end of another task's call, with this answer
unfoldable pub done_with : Answer → ℕ
done_with Yes = 0
done_with No = 0
done_with Full = 0
done_with Done = 1
done_with Lost = 0
done_with Limit = 0

unfoldable pub beside_end : Answer → CallCount → CallCount
beside_end a c = record { call = c.call; running = c.running; accepted = c.accepted; resizes = c.resizes + done_with a }

-- each task's, after one event
unfoldable pub count : (ℕ → CallCount) → Event → Output → ℕ → CallCount
count c (starts p call tag) (Ok (At l)) q = if eqb q p then begun call else c q
count c (starts p call tag) (Ok (End a own full)) q = c q
count c (starts p call tag) (Err r) q = c q
count c (steps p) (Ok (At l)) q = if eqb q p then stepped true (c q) else c q
count c (steps p) (Ok (End a own full)) q = if eqb q p then stepped false (c q) else beside_end a (c q)
count c (steps p) (Err r) q = c q

-- the same after all events
unfoldable pub counts : (ℕ → CallCount) → List Event → List Output → ℕ → CallCount
counts c [] os = c
counts c (e ∷ es) [] = c
counts c (e ∷ es) (o ∷ os) = counts (count c e o) es os

-- before the first event no task has started a call
unfoldable pub none_begun : ℕ → CallCount
none_begun q = record { call = Contains; running = false; accepted = 0; resizes = 0 }

-- ---- "an insert or remove makes at most 12 × (1 + R) accepted steps" "A resize makes at most 292."

-- of a call with R resizes done meanwhile; five of a contains is paper 01's
abbrev pub most_steps : Call → ℕ → ℕ
most_steps Insert r = 12 * (1 + r)
most_steps Remove r = 12 * (1 + r)
most_steps Contains r = 5
most_steps Grow r = 292
most_steps Shrink r = 292

abbrev pub Within : (ℕ → CallCount) → Event → Type 0
Within c (starts p call tag) = Unit {0}
Within c (steps p) = (c p).accepted ≤ most_steps (c p).call (c p).resizes

-- after each step of a call, the one that ends it among them; c counts what was before these events
abbrev pub StepsWithin : (ℕ → CallCount) → List Event → List Output → Type 0
StepsWithin c [] os = Unit {0}
StepsWithin c (e ∷ es) [] = Unit {0}
StepsWithin c (e ∷ es) (o ∷ os) = Within (count c e o) e × StepsWithin (count c e o) es os

-- ---- "If nobody starts a new call, each running call ends at the latest with its 292nd further accepted step"

-- none of these events is an accepted start
abbrev pub NoStart : Event → Output → Type 0
NoStart (starts p call tag) (Ok (At l)) = ⊥
NoStart (starts p call tag) (Ok (End a own full)) = Unit {0}
NoStart (starts p call tag) (Err r) = Unit {0}
NoStart (steps p) o = Unit {0}

abbrev pub NobodyStarts : List Event → List Output → Type 0
NobodyStarts [] os = Unit {0}
NobodyStarts (e ∷ es) [] = Unit {0}
NobodyStarts (e ∷ es) (o ∷ os) = NoStart e o × NobodyStarts es os

-- the same calls, their further steps counted from here on
unfoldable pub anew : (ℕ → CallCount) → ℕ → CallCount
anew c q = record { call = (c q).call; running = (c q).running; accepted = 0; resizes = 0 }

-- c counts what was before these events: a call makes at most 292 further steps, and one that runs has made fewer
abbrev pub EndsWithin292 : (ℕ → CallCount) → List Event → List Output → Type 0
EndsWithin292 c es os = (p : ℕ) → let d = counts (anew c) es os p in (d.accepted ≤ 292) × (d.running ≡ true → d.accepted < 292)

-- ---- "and until then only 7 refuses its steps"

abbrev pub RefusedWith7 : (ℕ → CallCount) → Event → Output → Type 0
RefusedWith7 c (starts p call tag) o = Unit {0}
RefusedWith7 c (steps p) (Ok (At l)) = Unit {0}
RefusedWith7 c (steps p) (Ok (End a own full)) = Unit {0}
RefusedWith7 c (steps p) (Err r) = (c p).running ≡ true → r ≡ NoRecord

-- of all these events; c counts what was before them
abbrev pub Only7Refuses : (ℕ → CallCount) → List Event → List Output → Type 0
Only7Refuses c [] os = Unit {0}
Only7Refuses c (e ∷ es) [] = Unit {0}
Only7Refuses c (e ∷ es) (o ∷ os) = RefusedWith7 c e o × Only7Refuses (count c e o) es os
