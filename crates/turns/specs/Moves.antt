-- "a run of starts, steps and turns from one accepted opening, each given what the one before left": what it says, what it leaves, and the
-- schedule that it stands for. Assumes nothing.
use Rattle.std.specs.Prelude.{ℕ, List, [], ◌∷◌}
use Rattle.spec.specs.declared.Config.{Config}
use Rattle.spec.specs.Outputs.{Output}
use Rattle.spec.specs.Machine.{Machine}
use Rattle.spec.specs.Entries.{opening}
use Rattle.spec.specs.Schedule.{Event, steps, event}
use Rattle.turns.specs.declared.Turn.{Turn}
use Rattle.turns.specs.declared.Turn.TheVariants.{Idle, Of, Refused}
use Rattle.turns.specs.Turn.{turn}

pub data Move : Type 0 where
  -- a start or a step
  enters : Event → Move
  turns : Move

-- what a start or a step answers, and what a turn answers
pub data Said : Type 0 where
  entered : Output → Said
  turned : Turn → Said

pub record Moved : Type 0 where
  pub says : Said
  pub machine : Machine

unfoldable pub move : Machine → Move → Moved
move y (enters e) = let r = event y e in record { says = entered r.out; machine = r.machine }
move y turns = let r = turn y in record { says = turned r.says; machine = r.machine }

pub record Run : Type 0 where
  pub says : List Said
  pub machine : Machine

unfoldable pub moves : Machine → List Move → Run
moves y [] = record { says = []; machine = y }
moves y (m ∷ ms) =
    let n = move y m in
    let r = moves n.machine ms in
    record { says = n.says ∷ r.says; machine = r.machine }

-- from an opening
unfoldable pub run_of : Config → List ℕ → List ℕ → List Move → Run
run_of g ns bs ms = moves (opening g ns bs).machine ms

-- ---- "a turn standing for its task's step and idle turns left out": told from the moves and what they said

unfoldable pub stands_for : List Move → List Said → List Event
stands_for [] ss = []
stands_for (m ∷ ms) [] = []
stands_for (enters e ∷ ms) (s ∷ ss) = e ∷ stands_for ms ss
stands_for (turns ∷ ms) (entered o ∷ ss) = stands_for ms ss
stands_for (turns ∷ ms) (turned (Of k o) ∷ ss) = steps k ∷ stands_for ms ss
stands_for (turns ∷ ms) (turned Idle ∷ ss) = stands_for ms ss
stands_for (turns ∷ ms) (turned (Refused r) ∷ ss) = stands_for ms ss

-- the outputs of the starts and steps, and of the steps that turns stood for
unfoldable pub outputs : List Said → List Output
outputs [] = []
outputs (entered o ∷ ss) = o ∷ outputs ss
outputs (turned (Of k o) ∷ ss) = o ∷ outputs ss
outputs (turned Idle ∷ ss) = outputs ss
outputs (turned (Refused r) ∷ ss) = outputs ss
