-- A version's own tags: at most 64, and they ascend. Assumes nothing.
use Rattle.std.specs.Prelude.{length, drop}
use mathlib.Core.Path.{◌≡◌, ap, ◌∙◌}
use mathlib.Core.Bool.{true}
use mathlib.Core.List.{List}
use Prim.Native.Nat.{ℕ, ◌+◌, ◌*◌, ◌≤◌}
use native.Mathlib.Omega.{arith}
use Rattle.std.proofs.Math.ListN.{length-take}
use Rattle.spec.specs.Lists.{ascending}
use Rattle.spec.specs.Words.{count, tags}
use Rattle.bucket.specs.declared.Bucket.{Bucket}
use Rattle.bucket.specs.Bucket.{tags_in}
use Rattle.pool.specs.Pool.{bucket_at}
use Rattle.pool.proofs.At.{few_tags, tags_at, ascending_tags}
use Rattle.coop_pool.specs.Versions.{Tagged}

module _ (w : List ℕ) (k : ℕ) (v : Tagged w k) where
  pub few_own : length (tags w k) ≤ 64
  unfolding tags
  few_own = let f = few_tags w k v.few in rw (length-take (count w k) (drop (66 * k + 2) w)) (omega arith)

  pub own_ascend : ascending (tags w k) ≡ true
  own_ascend = ascending_tags w k v.few v.up

  pub own_tags : (b : Bucket) → b ≡ bucket_at w k → tags_in b.words ≡ tags w k
  own_tags b e = ap (λ (x : Bucket). tags_in x.words) e ∙ tags_at w k v.few v.fits
