-- Laws of the loops over places that count and gather: a turn of each. Assumes nothing.
use Rattle.std.specs.Prelude.{Result, Err}
use mathlib.Core.Path.{◌≡◌, refl, sym, ap, ◌∙◌}
use mathlib.Core.List.{List, [], ◌∷◌, ◌++◌, append-nil}
use mathlib.Core.Bool.{Bool, true, false}
use Prim.Native.Nat.{ℕ, suc, ◌+◌, ◌-◌, ◌<◌, ◌≤◌}
use native.Mathlib.Numerals.{add-one}
use native.Mathlib.Omega.{arith}
use borrow.Author.Tests.{eq-eqb, ne_eqb}
use Rattle.spec.specs.declared.Config.{Config}
use Rattle.spec.specs.Words.{number, pred}
use Rattle.bucket.specs.declared.Bucket.{Bucket}
use Rattle.listing_place.specs.PlaceTags.{place_tags}
use Rattle.listing.specs.Listing.{places_tags, set_tags, add_to, adds}

-- ---- tags put in one after the other

pub adds_append : (g : Result Bucket Bucket) (xs ys : List ℕ) → adds g (xs ++ ys) ≡ adds (adds g xs) ys
unfolding adds
adds_append g [] ys = refl
adds_append g (x ∷ xs) ys = adds_append (add_to g x) xs ys

pub adds_none : (g : Result Bucket Bucket) → adds g [] ≡ g
unfolding adds
adds_none g = refl

pub adds_one : (g : Result Bucket Bucket) (x : ℕ) (xs : List ℕ) → adds g (x ∷ xs) ≡ adds (add_to g x) xs
unfolding adds
adds_one g x xs = refl

pub adds_full : (b : Bucket) (xs : List ℕ) → adds (Err b) xs ≡ Err b
unfolding adds add_to
adds_full b [] = refl
adds_full b (x ∷ xs) = adds_full b xs

-- what comes after the first tags is put into what these made
pub adds_then : (g h : Result Bucket Bucket) (xs ys : List ℕ) → h ≡ adds g xs → adds g (xs ++ ys) ≡ adds h ys
adds_then g h xs ys e = adds_append g xs ys ∙ ap (λ (k : Result Bucket Bucket). adds k ys) (sym e)

-- ---- a node's places, one by one

module _ (g : Config) (ns bs : List ℕ) (head k : ℕ) (old : Bool) (j : ℕ) where
  pub places_on : j < 32 → places_tags g ns bs head k old j (32 - j) ≡ place_tags g ns bs head k old j ++ places_tags g ns bs head k old (j + 1) (32 - (j + 1))
  unfolding places_tags
  places_on h = let e : 32 - j ≡ suc (32 - (j + 1)) = omega arith in rw (e, add-one j)

  pub places_none : 32 ≤ j → places_tags g ns bs head k old j (32 - j) ≡ []
  unfolding places_tags
  places_none h = let e : 32 - j ≡ 0 = omega arith in rw e

-- ---- both nodes

module _ (g : Config) (ns bs : List ℕ) (head : ℕ) where
  pub set_alone : pred ns head ≡ 0 → set_tags g ns bs head ≡ places_tags g ns bs head head false 0 32
  unfolding set_tags
  set_alone z = rw (eq-eqb _ _ z) (append-nil (places_tags g ns bs head head false 0 32))

  pub set_both : (pred ns head ≡ 0 → ⊥)
      → set_tags g ns bs head ≡ places_tags g ns bs head head false 0 32 ++ places_tags g ns bs head (number (pred ns head)) true 0 32
  unfolding set_tags
  set_both z = rw (ne_eqb _ _ z)
