-- Laws of the loops over the tags of one place: a turn of each. Assumes nothing.
use mathlib.Core.Path.{◌≡◌}
use mathlib.Core.List.{List, [], ◌∷◌}
use mathlib.Core.Bool.{Bool, true, false}
use Prim.Native.Nat.{ℕ, ◌+◌, ◌-◌, ◌<◌, ◌≤◌}
use native.Mathlib.Numerals.{add-one}
use borrow.Author.Tests.{eq-eqb, ne_eqb}
use lib.ListN.{length, get_or, drop, drop_of_length-le}
use lib.Seq.{drop-cons}
use Rattle.spec.specs.declared.Config.{Config}
use Rattle.spec.specs.Lists.{filter}
use Rattle.spec.specs.Words.{place}
use Rattle.bucket.specs.declared.Bucket.{Bucket}
use Rattle.bucket.specs.Bucket.{tags_in}
use Rattle.pool.specs.Pool.{bucket_at}
use Rattle.looked_up.specs.LookedUp.{looked_up}
use Rattle.listing_place.specs.PlaceTags.{linked_tags, place_tags}

-- ---- a bucket's tags, one by one

module _ (f : ℕ → Bool) (ts : List ℕ) (i : ℕ) where
  pub pass : i < length ts → f (get_or ts i 0) ≡ true → filter f (drop i ts) ≡ get_or ts i 0 ∷ filter f (drop (i + 1) ts)
  unfolding filter
  pass h e = rw (add-one, drop-cons ts i 0 h, e)

  pub skip : i < length ts → f (get_or ts i 0) ≡ false → filter f (drop i ts) ≡ filter f (drop (i + 1) ts)
  unfolding filter
  skip h e = rw (add-one, drop-cons ts i 0 h, e)

  pub rest_none : length ts ≤ i → filter f (drop i ts) ≡ []
  unfolding filter
  rest_none h = rw (drop_of_length-le ts h)

-- ---- the bucket that the place names, read out of the pool

module _ (g : Config) (ns bs : List ℕ) (head k : ℕ) (old : Bool) (j : ℕ) (l : ℕ) (e : l ≡ place ns k j) where
  pub place_empty : l ≡ 0 → place_tags g ns bs head k old j ≡ []
  unfolding place_tags linked_tags filter
  place_empty z = rw (← e, eq-eqb l 0 z)

  pub place_filled : (l ≡ 0 → ⊥) → (b : Bucket) → b ≡ bucket_at bs (l - 1)
      → place_tags g ns bs head k old j ≡ filter (looked_up g ns head k old j) (tags_in b.words)
  unfolding place_tags linked_tags
  place_filled z b q = rw (← e, ne_eqb l 0 z, q)
