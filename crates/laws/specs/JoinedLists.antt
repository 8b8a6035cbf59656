-- Members of joined lists and of the first n elements of a list. Assumes nothing.
use Prim.Native.Nat.{ℕ, zero, suc, ◌<◌}
use Rattle.std.specs.Prelude.{◌≡◌, refl, ◌⊎◌, false, ◌||◌, get_or, take}
use Rattle.std.proofs.Common.{sym, inl, inr, arith}
use Rattle.std.proofs.Math.Bool.{true}
use mathlib.Core.List.{List, [], ◌∷◌}
use Rattle.spec.specs.Lists.{member, concat_map}
use Rattle.laws.specs.Tests.{tf, or_e, or_l, or_r}
use Rattle.laws.specs.Lists.{member_cons, member_here, member_there, member_append}

-- ---- joined lists

module _ {A : Type 0} (f : A → List ℕ) (d : A) where
  pub join_at : (n : ℕ) (l : List A) → member n (concat_map f l) ≡ true → (j : ℕ) × (member n (f (get_or l j d)) ≡ true)
  unfolding concat_map member
  join_at n [] e = absurd (tf e refl)
  join_at n (x ∷ l) e = go (or_e (member n (f x)) (member n (concat_map f l)) (rw (member_append n (f x) (concat_map f l)) at e)) (join_at n l)
    where
      go : (member n (f x) ≡ true) ⊎ (member n (concat_map f l) ≡ true) → (member n (concat_map f l) ≡ true → (j : ℕ) × (member n (f (get_or l j d)) ≡ true))
          → (j : ℕ) × (member n (f (get_or (x ∷ l) j d)) ≡ true)
      go (inl p) ih = (0, p)
      go (inr p) ih = (suc (ih p).0, (ih p).1)

  pub at_join : (n : ℕ) (l : List A) → member n (f d) ≡ false → (j : ℕ) → member n (f (get_or l j d)) ≡ true → member n (concat_map f l) ≡ true
  unfolding concat_map member
  at_join n [] z j e = absurd (tf e z)
  at_join n (x ∷ l) z zero e = rw (member_append n (f x) (concat_map f l)) (or_l _ _ e)
  at_join n (x ∷ l) z (suc j) e = rw (member_append n (f x) (concat_map f l)) (or_r (member n (f x)) _ (at_join n l z j e))

-- the same for numbers, by membership
pub join_from : (f : ℕ → List ℕ) (n : ℕ) (l : List ℕ) → member n (concat_map f l) ≡ true → (x : ℕ) × (member x l ≡ true) × (member n (f x) ≡ true)
unfolding concat_map member
join_from f n [] e = absurd (tf e refl)
join_from f n (x ∷ l) e = go (or_e (member n (f x)) (member n (concat_map f l)) (rw (member_append n (f x) (concat_map f l)) at e)) (join_from f n l)
  where
    go : (member n (f x) ≡ true) ⊎ (member n (concat_map f l) ≡ true)
        → (member n (concat_map f l) ≡ true → (z : ℕ) × (member z l ≡ true) × (member n (f z) ≡ true))
        → (z : ℕ) × (member z (x ∷ l) ≡ true) × (member n (f z) ≡ true)
    go (inl p) ih = (x, member_here x x l refl, p)
    go (inr p) ih = let q = ih p in (q.0, member_there q.0 x l q.1, q.2)

pub from_join : (f : ℕ → List ℕ) (n x : ℕ) (l : List ℕ) → member x l ≡ true → member n (f x) ≡ true → member n (concat_map f l) ≡ true
unfolding concat_map member
from_join f n x [] e g = absurd (tf e refl)
from_join f n x (z ∷ l) e g = rw (member_append n (f z) (concat_map f l)) (go (member_cons x z l e) (from_join f n x l))
  where
    go : (x ≡ z) ⊎ (member x l ≡ true) → (member x l ≡ true → member n (f x) ≡ true → member n (concat_map f l) ≡ true)
        → (member n (f z) || member n (concat_map f l)) ≡ true
    go (inl p) ih = or_l _ _ (rw p at g)
    go (inr p) ih = or_r (member n (f z)) _ (ih p g)

-- the first n elements
pub take_has : (x n : ℕ) (l : List ℕ) → member x (take n l) ≡ true → (i : ℕ) × (i < n) × (get_or l i 0 ≡ x)
unfolding member
take_has x zero l e = absurd (tf e refl)
take_has x (suc n) [] e = absurd (tf e refl)
take_has x (suc n) (z ∷ l) e = go (member_cons x z (take n l) e) (take_has x n l)
  where
    go : (x ≡ z) ⊎ (member x (take n l) ≡ true) → (member x (take n l) ≡ true → (i : ℕ) × (i < n) × (get_or l i 0 ≡ x))
        → (i : ℕ) × (i < suc n) × (get_or (z ∷ l) i 0 ≡ x)
    go (inl p) ih = (0, omega arith, sym p)
    go (inr p) ih = let q = ih p in (suc q.0, omega arith, q.2)

pub has_take : (x n : ℕ) (l : List ℕ) (i : ℕ) → ¬ (x ≡ 0) → i < n → get_or l i 0 ≡ x → member x (take n l) ≡ true
has_take x zero l i d h e = absurd (omega arith)
has_take x (suc n) [] i d h e = absurd (d (sym e))
has_take x (suc n) (z ∷ l) zero d h e = member_here x z (take n l) (sym e)
has_take x (suc n) (z ∷ l) (suc i) d h e = member_there x z (take n l) (has_take x n l i d (omega arith) e)
