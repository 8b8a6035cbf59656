-- Ascending lists compared by their tags: two with the same tags are one list, and a part is no longer than the whole. Both by
-- going along the two lists: the least tags are equal, or one of them is missing in the other. Assumes nothing.
use Rattle.std.specs.Prelude.{ℕ, ◌≤◌, ◌<◌, ◌≡◌, refl, ◌⊎◌, List, [], ◌∷◌, true, false, length}
use Rattle.std.proofs.Common.{sym, ◌∙◌, inl, inr, arith, ne_eqb}
use Rattle.std.proofs.Math.Decide.{ℕ_discrete}
use Rattle.spec.specs.Lists.{member}
use Rattle.laws.specs.Tests.{bool?}
use Rattle.laws.specs.Lists.{member_here, no_member}
use Rattle.laws.specs.Ascending.{Above, Rising}

-- what stands in x ∷ l and is not x stands in l
pub member_tail : (n x : ℕ) (l : List ℕ) → ¬ (n ≡ x) → member n (x ∷ l) ≡ member n l
unfolding member
member_tail n x l d = rw (ne_eqb n x d)

-- what all of a list is above is not in it
pub above_absent : (x : ℕ) (l : List ℕ) → Above x l → member x l ≡ false
above_absent x l a = go (bool? (member x l))
  where
    go : (member x l ≡ true) ⊎ (member x l ≡ false) → member x l ≡ false
    go (inl e) = let b = a x e in absurd (omega arith)
    go (inr e) = e

pub rising_same : (l m : List ℕ) → Rising l → Rising m → ((k : ℕ) → member k l ≡ member k m) → l ≡ m
rising_same [] [] r s e = refl
rising_same [] (y ∷ m) r s e = absurd (no_member y (e y ∙ member_here y y m refl))
rising_same (x ∷ l) [] r s e = absurd (no_member x (sym (e x) ∙ member_here x x l refl))
rising_same (x ∷ l) (y ∷ m) r s e = go (ℕ_discrete x y) (rising_same l m r.1 s.1)
  where
    tail : x ≡ y → (k : ℕ) → member k l ≡ member k m
    tail q k = rest (ℕ_discrete k x)
      where
        rest : Dec (k ≡ x) → member k l ≡ member k m
        rest (yes p) = rw p (above_absent x l r.0 ∙ sym (rw (← q) at (above_absent y m s.0)))
        rest (no n) = sym (member_tail k x l n) ∙ e k ∙ member_tail k y m (λ u. n (u ∙ sym q))

    go : Dec (x ≡ y) → (((k : ℕ) → member k l ≡ member k m) → l ≡ m) → x ∷ l ≡ y ∷ m
    go (yes q) ih = let t = ih (tail q) in rw (q, t)
    go (no n) ih =
        let a = s.0 x (sym (member_tail x y m n) ∙ sym (e x) ∙ member_here x x l refl) in
        let b = r.0 y (sym (member_tail y x l (λ u. n (sym u))) ∙ e y ∙ member_here y y m refl) in
        absurd (omega arith)

pub part_length : (l m : List ℕ) → Rising l → Rising m → ((k : ℕ) → member k l ≡ true → member k m ≡ true) → length l ≤ length m
part_length [] m r s e = omega arith
part_length (x ∷ l) [] r s e = absurd (no_member x (e x (member_here x x l refl)))
part_length (x ∷ l) (y ∷ m) r s e = go (ℕ_discrete x y) (part_length l m r.1 s.1) (part_length (x ∷ l) m r s.1)
  where
    -- y is below x, and below all of l
    above : ¬ (x ≡ y) → (k : ℕ) → member k (x ∷ l) ≡ true → ¬ (k ≡ y)
    above n k a q = rest (ℕ_discrete k x)
      where
        b : y < x
        b = s.0 x (sym (member_tail x y m n) ∙ e x (member_here x x l refl))

        rest : Dec (k ≡ x) → ⊥
        rest (yes p) = n (sym p ∙ q)
        rest (no d) = let c = r.0 k (sym (member_tail k x l d) ∙ a) in let z = b in omega arith

    go : Dec (x ≡ y) → (((k : ℕ) → member k l ≡ true → member k m ≡ true) → length l ≤ length m)
        → (((k : ℕ) → member k (x ∷ l) ≡ true → member k m ≡ true) → length (x ∷ l) ≤ length m) → length (x ∷ l) ≤ length (y ∷ m)
    go (yes q) ih ih' = let t = ih (λ k a. both k a) in omega arith
      where
        both : (k : ℕ) → member k l ≡ true → member k m ≡ true
        both k a = let b = r.0 k a in let n : ¬ (k ≡ x) = omega arith in let n' : ¬ (k ≡ y) = omega arith in
            sym (member_tail k y m n') ∙ e k (member_tail k x l n ∙ a)
    go (no n) ih ih' = let t = ih' (λ k a. sym (member_tail k y m (above n k a)) ∙ e k a) in omega arith
