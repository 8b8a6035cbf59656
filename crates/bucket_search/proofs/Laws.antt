-- Laws of a bucket's tags and of the search among them.
-- Assumes nothing.
use mathlib.Core.Path.{◌≡◌, refl}
use mathlib.Core.List.{List, [], ◌∷◌}
use mathlib.Core.Bool.{Bool, true, false}
use Prim.Native.Nat.{ℕ, ◌+◌, ◌<◌, ◌≤◌}
use native.Mathlib.Numerals.{add-one}
use native.Mathlib.Omega.{arith}
use borrow.Author.Tests.{lt-ltb, le-ltb, ltb-true, ltb-false}
use lib.Dec.{ltb}
use lib.ListN.{length, get_or, drop, length-take, drop_of_length-le}
use lib.Seq.{drop-cons, get_or-take, get_or-drop}
use Rattle.laws.specs.Tests.{and_left, and_right}
use Rattle.spec.specs.Lists.{filter, ascending}
use Rattle.laws.specs.Ascending.{ascending_tail}
use Rattle.bucket_search.specs.Tags.{tags_in, rank}

-- a tag is the word two places on
pub tag_at : (ws : List ℕ) (i : ℕ) → i < length (tags_in ws) → get_or (tags_in ws) i 0 ≡ get_or ws (2 + i) 0
tag_at ws i h =
    let g : i < get_or ws 1 0 = omega (arith, simp length-take at h) in
    rw (get_or-take, get_or-drop)

module _ (x : ℕ) (ts : List ℕ) (i : ℕ) (h : i < length ts) where
  pub rank_here : x ≤ get_or ts i 0 → rank x (drop i ts) ≡ 0
  unfolding rank
  rank_here n = rw (drop-cons ts i 0 h, le-ltb _ _ n)

  pub rank_on : get_or ts i 0 < x → i + rank x (drop i ts) ≡ i + 1 + rank x (drop (i + 1) ts)
  unfolding rank
  rank_on n = rw (add-one, drop-cons ts i 0 h, lt-ltb _ _ n) (omega arith)

pub rank_end : (x : ℕ) (ts : List ℕ) (i : ℕ) → length ts ≤ i → rank x (drop i ts) ≡ 0
unfolding rank
rank_end x ts i h = rw (drop_of_length-le ts h)

-- ---- of an ascending list the position is how many tags are below

-- none of an ascending list's later tags is below a number that its first is not below
none_below : (x y : ℕ) (ys : List ℕ) → x ≤ y → ascending (y ∷ ys) ≡ true → filter (λ k. ltb k x) ys ≡ []
unfolding filter ascending
none_below x y [] l h = refl
none_below x y (z ∷ zs) l h =
    let a : y < z = ltb-true y z (and_left (ltb y z) (ascending (z ∷ zs)) h) in
    let m : x ≤ z = omega arith in
    rw (le-ltb z x m) (none_below x z zs m (and_right (ltb y z) (ascending (z ∷ zs)) h))

pub rank_counts_below : (x : ℕ) (ts : List ℕ) → ascending ts ≡ true → rank x ts ≡ length (filter (λ k. ltb k x) ts)
unfolding rank filter
rank_counts_below x [] h = refl
rank_counts_below x (y ∷ ys) h = go (ltb y x) refl (rank_counts_below x ys (ascending_tail y ys h))
  where
    go : (b : Bool) → ltb y x ≡ b → rank x ys ≡ length (filter (λ k. ltb k x) ys) → rank x (y ∷ ys) ≡ length (filter (λ k. ltb k x) (y ∷ ys))
    go true p ih = rw (p, ih)
    go false p ih = rw (p, none_below x y ys (ltb-false y x p) h)
