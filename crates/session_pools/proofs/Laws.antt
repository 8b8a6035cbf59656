-- Laws that the proofs of the functions cite, over plain numbers: the extent of a pool's part. Assumes
-- nothing.
use mathlib.Core.Path.{◌≡◌}
use Prim.Native.Nat.{ℕ, ◌*◌, ◌<◌, ◌≤◌}
use borrow.Author.Tests.{le-leb, lt-leb}
use Rattle.session_pools.specs.PoolParts.{extent}

-- ---- the extent of a part

module _ (width most n words : ℕ) where
  pub extent_low : n < 1 → extent width most n words ≡ 0
  unfolding extent
  extent_low h = rw (lt-leb _ _ h)

  pub extent_high : 1 ≤ n → most < n → extent width most n words ≡ 0
  unfolding extent
  extent_high l h = rw (le-leb _ _ l, lt-leb _ _ h)

  pub extent_fits : 1 ≤ n → n ≤ most → width * n ≤ words → extent width most n words ≡ width * n
  unfolding extent
  extent_fits l h f = rw (le-leb _ _ l, le-leb _ _ h, le-leb _ _ f)

  pub extent_short : 1 ≤ n → n ≤ most → words < width * n → extent width most n words ≡ 0
  unfolding extent
  extent_short l h f = rw (le-leb _ _ l, le-leb _ _ h, lt-leb _ _ f)

pub ruleset extents = (extent_low, extent_high, extent_fits, extent_short)
