-- What INVOKE, line 36, goes by once the task's bucket is there and may change.
-- Assumes nothing.
use Rattle.std.specs.Prelude.{ℕ, ◌*◌, ◌<◌, ◌≤◌, ◌≡◌, List, true, length, drop}
use Rattle.spec.specs.declared.Task.{Task}
use Rattle.spec.specs.Words.{number, changeable}
use Rattle.spec.specs.Sound.{sound_bucket}

-- task k with the record c stands at line 36, and its bucket is a sound one of the pool bs that is not frozen
pub record Invokes (k : ℕ) (c : Task) (bs : List ℕ) : Type 0 where
  pub task : k < 8
  pub line : c.line ≡ 36
  pub there : 0 < c.b
  pub most : c.b ≤ 1024
  pub fits : 66 * c.b ≤ length bs
  pub good : sound_bucket (drop (66 * number c.b) bs) ≡ true
  pub may_change : changeable bs (number c.b) ≡ 0 → ⊥
