-- Words written one after the other. Assumes nothing.
use Prim.Native.Nat.{ℕ, ◌+◌}
use mathlib.Core.Path.{◌≡◌}
use mathlib.Core.List.{List, append-nil}
use native.Mathlib.Omega.{arith}
use lib.ListN.{length, drop_of_length-le}
use Rattle.spec.specs.Words.{overwrite}
pub use Rattle.schedule_words.proofs.Laws.{over_none, over_then, over_part}

-- all words written over
pub over_all : (w v : List ℕ) → length v ≡ length w → overwrite w 0 v ≡ v
unfolding overwrite
over_all w v e = let z : 0 + length v ≡ length w = omega arith in rw (z, drop_of_length-le w {i = length w} (omega arith)) (append-nil v)
