-- Events of the cooperative bucket as words, for callers outside Rattle: four words each, a kind, a task, an operation's number and a tag.
-- Assumes nothing.
use Rattle.std.specs.Prelude.{ℕ, zero, suc, List, [], ◌∷◌, eqb, get_or, drop, if◌then◌else◌, Option, Some, None}
use Rattle.coop_spec.specs.declared.Call.{Call}
use Rattle.coop_spec.specs.declared.Call.TheVariants.{InvokeInsert, InvokeRemove, Freeze, HasMember, GetResponse}
use Rattle.coop_spec.specs.Numbers.{call_number}
use Rattle.coop_spec.specs.Schedule.{Event, starts, steps}

-- the kind of a start is its call's number; every other kind, 0 or above 5, is a step
unfoldable pub event_of : ℕ → ℕ → ℕ → ℕ → Event
event_of kind task n tag =
    if eqb kind (call_number InvokeInsert) then starts task InvokeInsert n tag
    else if eqb kind (call_number InvokeRemove) then starts task InvokeRemove n tag
    else if eqb kind (call_number Freeze) then starts task Freeze n tag
    else if eqb kind (call_number HasMember) then starts task HasMember n tag
    else if eqb kind (call_number GetResponse) then starts task GetResponse n tag
    else steps task

-- the first m events of the words
unfoldable pub events_of : ℕ → List ℕ → List Event
events_of zero w = []
events_of (suc m) w = event_of (get_or w 0 0) (get_or w 1 0) (get_or w 2 0) (get_or w 3 0) ∷ events_of m (drop 4 w)

-- the start of a call by a task, with an operation's number and a tag, or without a call the task's step
unfoldable pub event_asked : Option Call → ℕ → ℕ → ℕ → Event
event_asked (Some call) task n tag = starts task call n tag
event_asked None task n tag = steps task
