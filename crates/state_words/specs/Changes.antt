-- What a start or a step changes of a state's words: the head, the records last taken, and its task's thirteen. Assumes nothing.
use Prim.Native.Nat.{ℕ}
use Rattle.std.specs.Prelude.{set}
use Rattle.spec.specs.declared.Task.{Task}
use Rattle.spec.specs.declared.State.{State}
use Rattle.spec.specs.Machine.{state_head, state_last_node, state_last_bucket, state_task}

-- a state with what a start or a step of task k changes
unfoldable pub changed : State → ℕ → ℕ → ℕ → ℕ → Task → State
changed s k head node bucket c = state_task (set s.task k c) (state_last_bucket bucket (state_last_node node (state_head head s)))
