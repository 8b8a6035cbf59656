-- The history of a schedule: its ended inserts, removes and contains, told from the events and their outputs alone.
-- Assumes nothing.
use Rattle.std.specs.Prelude.{ℕ, suc, List, [], ◌∷◌, Bool, true, false, eqb, if◌then◌else◌, Ok, Err}
use Rattle.spec.specs.declared.Answer.{Answer}
use Rattle.spec.specs.declared.Call.{Call}
use Rattle.spec.specs.declared.Call.TheVariants.{Insert, Remove, Contains, Grow, Shrink}
use Rattle.spec.specs.Outputs.{Output}
use Rattle.spec.specs.declared.Progress.TheVariants.{At, End}
use Rattle.spec.specs.Schedule.{Event, starts, steps}

-- "A call starts at its accepted start; the accepted step that ends it gives its answer": `start` and `end` are the places of the
-- two events in the schedule, from 0
pub record Ended : Type 0 where
  pub task : ℕ
  pub call : Call
  pub tag : ℕ
  pub answer : Answer
  pub start : ℕ
  pub end : ℕ

-- a task's last accepted start: its call and tag, and its place
pub record Started : Type 0 where
  pub call : Call
  pub tag : ℕ
  pub start : ℕ

-- "resizes and calls still running are not in it"
unfoldable pub set_call : Call → Bool
set_call Insert = true
set_call Remove = true
set_call Contains = true
set_call Grow = false
set_call Shrink = false

-- each task's last accepted start, after event n
unfoldable pub note : ℕ → (ℕ → Started) → Event → Output → ℕ → Started
note n last (starts p call tag) (Ok (At l)) q = if eqb q p then record { call = call; tag = tag; start = n } else last q
note n last (starts p call tag) (Ok (End a own full)) q = last q
note n last (starts p call tag) (Err r) q = last q
note n last (steps p) o q = last q

-- the ended calls after event n, the last first
unfoldable pub tell : ℕ → (ℕ → Started) → List Ended → Event → Output → List Ended
tell n last H (starts p call tag) o = H
tell n last H (steps p) (Ok (At l)) = H
tell n last H (steps p) (Ok (End a own full)) =
    let b = last p in
    if set_call b.call then (record { task = p; call = b.call; tag = b.tag; answer = a; start = b.start; end = n } ∷ H) else H
tell n last H (steps p) (Err r) = H

-- the same after all events from the n-th on
unfoldable pub history_from : ℕ → (ℕ → Started) → List Ended → List Event → List Output → List Ended
history_from n last H [] os = H
history_from n last H (e ∷ es) [] = H
history_from n last H (e ∷ es) (o ∷ os) = history_from (suc n) (note n last e o) (tell n last H e o) es os

-- before the first event no task has started a call of the set
abbrev pub none_started : ℕ → Started
none_started p = record { call = Grow; tag = 0; start = 0 }

-- the ended inserts, removes and contains of a schedule, the last first
unfoldable pub history : List Event → List Output → List Ended
history es os = history_from 0 none_started [] es os
