-- The answer of an accepted line whose task goes on, stored in the state. Assumes nothing.
use Rattle.std.specs.Prelude.{Ok}
use mathlib.Core.Path.{◌≡◌}
use mathlib.Core.List.{List}
use Prim.Native.Nat.{ℕ, ◌+◌, ◌<◌, min}
use borrow.Author.Tests.{lt-ltb}
use Rattle.spec.specs.Machine.{machine_of, with_line, with_own, with_state, with_task, set_task}
use Rattle.spec.specs.Machine.{state_head, state_last_node, state_last_bucket, state_task}
use Rattle.spec.specs.Words.{apply}
use Rattle.spec.specs.Lines.{moves}
use Rattle.spec.specs.Entries.{finish, accept}
use Rattle.spec.specs.declared.Task.{Task}
use Rattle.spec.specs.declared.State.{State}
use Rattle.spec.specs.Outputs.{Output}
use Rattle.spec.specs.declared.Progress.TheVariants.{At}
use Rattle.line_moves.specs.declared.Moved.{Moved}
use Rattle.line_moves.specs.Moving.{changes, settled, moved_reply}

-- what such a line gives, whose task has this record afterwards
abbrev pub gives : State → Output → Task → Moved
gives s o x = record { out = o; head = s.head; last_node = s.last_node; last_bucket = s.last_bucket; task = x }

-- the task goes on at line l
module _ (s : State) (k : ℕ) (c : Task) (low : k < 8) (ns bs : List ℕ) where
  pub goes_on : (l : ℕ) → moved_reply s k (gives s (Ok (At l)) (with_own (min (c.own + 1) 65535) (with_line l c))) ns bs
      ≡ accept (machine_of s ns bs) k c.own (moves (with_line l c))
  unfolding accept finish set_task with_task with_state state_head state_last_node state_last_bucket state_task with_line apply settled changes
  goes_on l = let e = lt-ltb _ _ low in rw e
