-- Events as words, for callers outside Rattle: four words each, a kind, a task, a tag, and one that is not read. And a list's answer
-- as one number. Assumes nothing.
use Rattle.std.specs.Prelude.{ℕ, zero, suc, ◌+◌, List, [], ◌∷◌, eqb, get_or, drop, if◌then◌else◌, Option, Some, None, Ok, Err}
use Rattle.spec.specs.Outputs.{Listing}
use Rattle.spec.specs.declared.Call.{Call}
use Rattle.spec.specs.declared.Call.TheVariants.{Insert, Remove, Contains, Grow, Shrink}
use Rattle.spec.specs.Numbers.{call_number, refusal_number}
use Rattle.spec.specs.Schedule.{Event, starts, steps}

-- the kind of a start is its call's number; every other kind, 0 or above 5, is a step
unfoldable pub event_of : ℕ → ℕ → ℕ → Event
event_of kind task tag =
    if eqb kind (call_number Insert) then starts task Insert tag
    else if eqb kind (call_number Remove) then starts task Remove tag
    else if eqb kind (call_number Contains) then starts task Contains tag
    else if eqb kind (call_number Grow) then starts task Grow tag
    else if eqb kind (call_number Shrink) then starts task Shrink tag
    else steps task

-- the first n events of the words
unfoldable pub events_of : ℕ → List ℕ → List Event
events_of zero w = []
events_of (suc n) w = event_of (get_or w 0 0) (get_or w 1 0) (get_or w 2 0) ∷ events_of n (drop 4 w)

-- the start of a call by a task, with a tag, or without a call the task's step
unfoldable pub event_asked : Option Call → ℕ → ℕ → Event
event_asked (Some call) task tag = starts task call tag
event_asked None task tag = steps task

-- for C: the number of tags listed, or 256 and the refusal's number
abbrev pub listing_number : Listing → ℕ
listing_number (Ok n) = n
listing_number (Err r) = 256 + refusal_number r
