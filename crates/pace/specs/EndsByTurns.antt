-- U12 with U11's records, where no step is refused with 7: in a run of starts, steps and turns, with nobody starting a call, every running
-- call ends within 292 × T turns. The type; proved in proofs/TurnsLeft. Assumes nothing.
use Rattle.std.specs.Prelude.{ℕ, suc, ◌*◌, ◌≤◌, ◌≡◌, false, List, [], ◌∷◌}
use Rattle.spec.specs.declared.Config.{Config}
use Rattle.spec.specs.Machine.{task_of}
use Rattle.turns.specs.Moves.{Move, enters, turns, moves, run_of, stands_for, outputs}
use Rattle.pace.specs.StepCounts.{NobodyStarts}

-- how many of these moves are turns
unfoldable pub turn_count : List Move → ℕ
turn_count [] = 0
turn_count (enters e ∷ ms) = turn_count ms
turn_count (turns ∷ ms) = suc (turn_count ms)

-- `before` are the moves until now, `after` the later ones, with direct steps among them or not
abbrev pub EndsByTurns : Config → List ℕ → List ℕ → Type 0
EndsByTurns g ns bs = (before after : List Move)
    → let r = moves (run_of g ns bs before).machine after in
    NobodyStarts (stands_for after r.says) (outputs r.says) → 292 * g.tasks ≤ turn_count after
    → (p : ℕ) → (task_of r.machine p).running ≡ false
