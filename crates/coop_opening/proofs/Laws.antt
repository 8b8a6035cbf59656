-- A pool of versions that fits. Assumes nothing.
use mathlib.Core.Path.{◌≡◌}
use mathlib.Core.Bool.{Bool, true, ◌&&◌}
use Prim.Native.Nat.{ℕ, ◌*◌, ◌%◌, ◌/◌, ◌≤◌}
use native.Mathlib.Omega.{arith}
use borrow.Author.Tests.{eqb-true, leb-true}
use lib.Dec.{leb, eqb}
use Rattle.laws.specs.Tests.{and_left, and_right}
use Rattle.spec.specs.Entries.{pool_fits}

pub record Pool (n : ℕ) : Type 0 where
  pub whole : 66 * (n / 66) ≡ n
  pub most : n / 66 ≤ 1024

pub pool_of : (n : ℕ) → pool_fits 66 1024 n ≡ true → Pool n
unfolding pool_fits
pool_of n e =
    let a : Bool = eqb (n % 66) 0 in
    let b : Bool = leb 1 (n / 66) in
    let c : Bool = leb (n / 66) 1024 in
    let z = eqb-true (n % 66) 0 (and_left a (b && c) e) in
    record { whole = omega arith; most = leb-true _ _ (and_right b c (and_right a (b && c) e)) }
