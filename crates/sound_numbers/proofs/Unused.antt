-- A task from T on. Assumes nothing.
use Rattle.std.specs.Prelude.{if◌then◌else◌}
use mathlib.Core.Path.{◌≡◌, sym}
use mathlib.Core.Bool.{Bool, true, false, not, ◌&&◌}
use Prim.Native.Nat.{ℕ, ◌≤◌}
use borrow.Author.Tests.{le-ltb}
use Rattle.spec.specs.Machine.{Machine}
use Rattle.spec.specs.Sound.{zero_task, sound_running, sound_task}
use Rattle.sound_records.proofs.Joined.{and_true, and-false}
use Rattle.spec.specs.declared.Task.{Task}

pub from_T : (y : Machine) (k : ℕ) (c : Task) → y.state.config.tasks ≤ k → sound_task y k c ≡ (zero_task c && not c.running)
unfolding sound_task sound_running
from_T y k c h = rw (le-ltb k y.state.config.tasks h) (go c.running (zero_task c))
  where
    go : (b z : Bool) → (if b then false else z) ≡ (z && not b)
    go true z = sym (and-false z)
    go false z = sym (and_true z)
