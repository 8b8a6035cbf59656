-- Laws of a tag that goes into a list or out of it at its position.
-- Assumes nothing.
use mathlib.Core.Path.{◌≡◌, refl, sym, ◌∙◌}
use mathlib.Core.List.{List, [], ◌∷◌, ◌++◌}
use mathlib.Core.Bool.{Bool, true, false, false≢true}
use Prim.Native.Nat.{ℕ, suc, ◌<◌, ◌≤◌}
use native.Mathlib.Omega.{arith}
use borrow.Author.Tests.{eq-eqb, ne_eqb, lt-ltb, le-ltb, ltb-true, ltb-false, eqb-true, eqb-false}
use lib.Dec.{ltb, eqb}
use lib.ListN.{length, take, drop}
use Rattle.spec.specs.Lists.{add_tag, remove_tag}
use Rattle.bucket_search.specs.Tags.{rank, stands_at, found}

-- ---- what the position says of the list

module _ (x y : ℕ) (ys : List ℕ) where
  ltb_suc : (a b : ℕ) → ltb (suc a) (suc b) ≡ ltb a b
  ltb_suc a b = go (ltb a b) refl
    where
      go : (t : Bool) → ltb a b ≡ t → ltb (suc a) (suc b) ≡ t
      go true p = let l : a < b = ltb-true a b p in lt-ltb (suc a) (suc b) (omega arith)
      go false p = let l : b ≤ a = ltb-false a b p in le-ltb (suc a) (suc b) (omega arith)

  -- the search passes a first tag that is below x, and stops at any other
  pub found_past : ltb y x ≡ true → found x (y ∷ ys) ≡ found x ys
  unfolding found stands_at rank
  found_past p = rw (p, ltb_suc (rank x ys) (length ys))

  pub found_here : ltb y x ≡ false → found x (y ∷ ys) ≡ eqb y x
  unfolding found stands_at rank
  found_here p = rw (p, lt-ltb 0 (suc (length ys)) (omega arith))

pub found_none : (x : ℕ) → found x [] ≡ false
unfolding found stands_at rank
found_none x = refl

-- a tag that is not found goes in at its position
pub add_rank : (x : ℕ) (ts : List ℕ) → found x ts ≡ false → add_tag x ts ≡ take (rank x ts) ts ++ (x ∷ drop (rank x ts) ts)
unfolding rank add_tag
add_rank x [] h = refl
add_rank x (y ∷ ys) h = go (ltb y x) refl (add_rank x ys)
  where
    go : (b : Bool) → ltb y x ≡ b → (found x ys ≡ false → add_tag x ys ≡ take (rank x ys) ys ++ (x ∷ drop (rank x ys) ys))
        → add_tag x (y ∷ ys) ≡ take (rank x (y ∷ ys)) (y ∷ ys) ++ (x ∷ drop (rank x (y ∷ ys)) (y ∷ ys))
    go true p r =
        let l : y < x = ltb-true y x p in
        rw (p, ne_eqb x y (λ e. omega arith), le-ltb x y (omega arith), r (sym (found_past x y ys p) ∙ h))
    go false p r =
        let g : x ≤ y = ltb-false y x p in
        let n : y ≡ x → ⊥ = eqb-false y x (sym (found_here x y ys p) ∙ h) in
        let l : x < y = omega (arith, n) in
        rw (p, lt-ltb x y l)

-- a tag that is found comes out at its position
pub remove_rank : (x : ℕ) (ts : List ℕ) → found x ts ≡ true → remove_tag x ts ≡ take (rank x ts) ts ++ drop (suc (rank x ts)) ts
unfolding rank remove_tag
remove_rank x [] h = absurd (false≢true (sym (found_none x) ∙ h))
remove_rank x (y ∷ ys) h = go (ltb y x) refl (remove_rank x ys)
  where
    go : (b : Bool) → ltb y x ≡ b → (found x ys ≡ true → remove_tag x ys ≡ take (rank x ys) ys ++ drop (suc (rank x ys)) ys)
        → remove_tag x (y ∷ ys) ≡ take (rank x (y ∷ ys)) (y ∷ ys) ++ drop (suc (rank x (y ∷ ys))) (y ∷ ys)
    go true p r =
        let l : y < x = ltb-true y x p in
        rw (p, ne_eqb x y (λ e. omega arith), r (sym (found_past x y ys p) ∙ h))
    go false p r = rw (p, eq-eqb x y (sym (eqb-true y x (sym (found_here x y ys p) ∙ h))))
