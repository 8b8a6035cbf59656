-- The answer of an accepted line that ends its call, stored in the state. Assumes nothing.
use Rattle.std.specs.Prelude.{Option, ℕ, Ok}
use mathlib.Core.Path.{◌≡◌}
use mathlib.Core.List.{List}
use Prim.Native.Nat.{ℕ, ◌+◌, ◌<◌, min}
use borrow.Author.Tests.{lt-ltb}
use Rattle.spec.specs.Machine.{machine_of, idle, with_state, with_task, set_task}
use Rattle.spec.specs.Machine.{state_head, state_last_node, state_last_bucket, state_task}
use Rattle.spec.specs.Words.{nothing, apply}
use Rattle.spec.specs.Lines.{answers_of}
use Rattle.spec.specs.Entries.{occupancy, finish, accept}
use Rattle.spec.specs.declared.Task.{Task}
use Rattle.spec.specs.declared.Answer.{Answer}
use Rattle.spec.specs.declared.State.{State}
use Rattle.spec.specs.declared.Progress.TheVariants.{End}
use Rattle.line_moves.specs.Moving.{changes, settled, moved_reply}
use Rattle.line_moves.proofs.Going.{gives}

module _ (s : State) (k : ℕ) (c : Task) (low : k < 8) (ns bs : List ℕ) where
  -- so full is the bucket that the link names
  pub ends_so : (a : Answer) (full : Option ℕ) (l : ℕ) → full ≡ occupancy (machine_of s ns bs) l
      → moved_reply s k (gives s (Ok (End a (min (c.own + 1) 65535) full)) idle) ns bs ≡ accept (machine_of s ns bs) k c.own (answers_of l nothing a)
  unfolding accept finish set_task with_task with_state state_head state_last_node state_last_bucket state_task apply settled changes
  ends_so a full l q = let e = lt-ltb _ _ low in rw (e, q)
