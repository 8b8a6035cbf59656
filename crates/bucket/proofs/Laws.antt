-- Laws of what the search finds.
-- Assumes nothing.
use Rattle.std.specs.Prelude.{if◌then◌else◌}
use mathlib.Core.Path.{◌≡◌, refl, sym, ◌∙◌}
use mathlib.Core.List.{List, [], ◌∷◌}
use mathlib.Core.Bool.{Bool, true, false, false≢true}
use Prim.Native.Nat.{ℕ, suc, ◌<◌, ◌≤◌}
use native.Mathlib.Omega.{arith}
use borrow.Author.Tests.{eq-eqb, ne_eqb, le-ltb, ltb-true, ltb-false, eqb-true, eqb-false}
use lib.Dec.{ltb, eqb}
use lib.ListN.{length, get_or}
use Rattle.laws.specs.Tests.{and_left, and_right}
use Rattle.spec.specs.Lists.{member, ascending, add_tag}
use Rattle.laws.specs.Ascending.{ascending_tail}
use Rattle.bucket_words.proofs.Laws.{found_past, found_here, found_none}
use Rattle.bucket.specs.Bucket.{rank, stands_at, found}
pub use Rattle.bucket_search.proofs.Laws.{tag_at}

pub rank_le : (x : ℕ) (ts : List ℕ) → rank x ts ≤ length ts
unfolding rank
rank_le x [] = omega arith
rank_le x (y ∷ ys) = go (rank_le x ys) (ltb y x)
  where
    go : rank x ys ≤ length ys → (b : Bool) → (if b then suc (rank x ys) else 0) ≤ suc (length ys)
    go h true = omega arith
    go h false = omega arith

-- whether it is found, by the position that the search gives
pub found_at : (x p : ℕ) (ts : List ℕ) (b : Bool) → p ≡ rank x ts → b ≡ stands_at p x ts → found x ts ≡ b
unfolding found
found_at x p ts b e q = rw (← e) (sym q)

-- a tag that is found is not added
pub add_present : (x : ℕ) (ts : List ℕ) → found x ts ≡ true → add_tag x ts ≡ ts
unfolding add_tag
add_present x [] h = absurd (false≢true (sym (found_none x) ∙ h))
add_present x (y ∷ ys) h = go (ltb y x) refl (add_present x ys)
  where
    go : (b : Bool) → ltb y x ≡ b → (found x ys ≡ true → add_tag x ys ≡ ys) → add_tag x (y ∷ ys) ≡ y ∷ ys
    go true p r =
        let l : y < x = ltb-true y x p in
        rw (ne_eqb x y (λ e. omega arith), le-ltb x y (omega arith), r (sym (found_past x y ys p) ∙ h))
    go false p r =
        let e : y ≡ x = eqb-true y x (sym (found_here x y ys p) ∙ h) in
        rw (le-ltb x y (omega arith), eq-eqb x y (sym e))

pub rank_below : (x : ℕ) (ts : List ℕ) → found x ts ≡ true → rank x ts < length ts
unfolding found stands_at
rank_below x ts h = ltb-true _ _ (and_left (ltb (rank x ts) (length ts)) (eqb (get_or ts (rank x ts) 0) x) h)

-- ---- of an ascending list the search finds the members

-- nothing in an ascending list is a number below its first
absent : (x y : ℕ) (ys : List ℕ) → x < y → ascending (y ∷ ys) ≡ true → member x (y ∷ ys) ≡ false
unfolding member ascending
absent x y [] l h = rw (ne_eqb x y (λ e. omega arith))
absent x y (z ∷ zs) l h =
    let a : y < z = ltb-true y z (and_left (ltb y z) (ascending (z ∷ zs)) h) in
    let m : x < z = omega arith in
    rw (ne_eqb x y (λ e. omega arith)) (absent x z zs m (and_right (ltb y z) (ascending (z ∷ zs)) h))

pub found_member : (x : ℕ) (ts : List ℕ) → ascending ts ≡ true → found x ts ≡ member x ts
unfolding member
found_member x [] h = found_none x
found_member x (y ∷ ys) h = go (ltb y x) (eqb y x) refl refl (found_member x ys (ascending_tail y ys h))
  where
    go : (b e : Bool) → ltb y x ≡ b → eqb y x ≡ e → found x ys ≡ member x ys → found x (y ∷ ys) ≡ member x (y ∷ ys)
    go true e p q ih =
        let l : y < x = ltb-true y x p in
        found_past x y ys p ∙ ih ∙ rw (ne_eqb x y (λ e. omega arith))
    go false true p q ih = found_here x y ys p ∙ rw (q, eq-eqb x y (sym (eqb-true y x q)))
    go false false p q ih =
        let g : x ≤ y = ltb-false y x p in
        let n : y ≡ x → ⊥ = eqb-false y x q in
        let l : x < y = omega (arith, n) in
        found_here x y ys p ∙ q ∙ sym (absent x y ys l h)
