-- "Schedules": starts and steps, each given what the one before left, from what an accepted opening leaves. Assumes nothing.
use Rattle.std.specs.Prelude.{ℕ, List, [], ◌∷◌, eqb, if◌then◌else◌}
use Rattle.spec.specs.declared.Call.{Call}
use Rattle.spec.specs.declared.Config.{Config}
use Rattle.spec.specs.Outputs.{Output}
use Rattle.spec.specs.Machine.{Machine}
use Rattle.spec.specs.Entries.{Opened, opening, Reply, start, step}

-- "a list of starts, each with any task number, call and tag, and steps, each with any task number, accepted or refused"
pub data Event : Type 0 where
  starts : ℕ → Call → ℕ → Event
  steps : ℕ → Event

unfoldable pub event : Machine → Event → Reply
event y (starts k call tag) = start y k call tag
event y (steps k) = step y k

-- the outputs of a run, one for each event, and the machine that it leaves
pub record Ran : Type 0 where
  pub outs : List Output
  pub machine : Machine

-- "Each start or step gets the state and pools that the one before returned or left"
unfoldable pub run : Machine → List Event → Ran
run y [] = record { outs = []; machine = y }
run y (e ∷ es) =
    let m = event y e in
    let r = run m.machine es in
    record { outs = m.out ∷ r.outs; machine = r.machine }

-- "It begins with the state and pools that an accepted opening leaves"; nothing is done after a refused one
unfoldable pub run_opened : Opened → List Event → Ran
run_opened o es = if eqb o.refusal 0 then run o.machine es else record { outs = []; machine = o.machine }

unfoldable pub schedule : Config → List ℕ → List ℕ → List Event → Ran
schedule g ns bs es = run_opened (opening g ns bs) es
