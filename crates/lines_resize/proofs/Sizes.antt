-- The sizes that line 27 makes a node of.
-- Assumes nothing.
use mathlib.Core.Path.{◌≡◌, refl}
use mathlib.Core.Bool.{Bool, true, false, or-true}
use Prim.Native.Nat.{ℕ, ◌*◌, ◌<◌, ◌≤◌}
use native.Mathlib.Omega.{arith}
use lib.Dec.{eqb}
use Rattle.spec.specs.Sound.{listed_size}
use Rattle.pool.proofs.Laws.{listed_small}

pub big : (z : ℕ) → 16 < z → listed_size (2 * z) ≡ false
big z h = go (listed_size (2 * z)) refl
  where
    go : (b : Bool) → listed_size (2 * z) ≡ b → b ≡ false
    go false e = refl
    go true e =
        let l : 2 * z ≤ 32 = listed_small (2 * z) (rw e (or-true (eqb (2 * z) 0))) in
        absurd (omega arith)
