-- Ascending lists of tags as sets: what add, remove, filter and union leave in them, that they ascend, how long they are.
-- Assumes nothing.
use Rattle.std.specs.Prelude.{ℕ, suc, ◌+◌, ◌≤◌, ◌<◌, ◌≡◌, refl, ◌⊎◌, List, [], ◌∷◌, Bool, true, false, not, ◌&&◌, ◌||◌, eqb, ltb, length}
use Rattle.std.proofs.Common.{sym, ap, ◌∙◌, inl, inr, arith, eqb-true, eq-eqb, ne_eqb, ltb-true, ltb-false, lt-ltb}
use Rattle.std.proofs.Math.Bool.{or_assoc, and-false}
use Rattle.std.proofs.Math.Decide.{ℕ_discrete}
use Rattle.std.proofs.lemmas.Bool.{eqb-false}
use Rattle.spec.specs.Lists.{member, ascending, filter, add_tag, remove_tag, union}
use Rattle.laws.specs.Tests.{or_swap, or_again, bool?, tf, and_left, and_right, and_i, or_e, if_true, if_false}
use Rattle.laws.specs.Lists.{member_cons, member_here}

-- ---- ascending lists as propositions
abbrev pub Above : ℕ → List ℕ → Type 0
Above x l = (n : ℕ) → member n l ≡ true → x < n

abbrev pub Rising : List ℕ → Type 0
Rising [] = Unit {0}
Rising (x ∷ l) = Above x l × Rising l

pub above_nil : (x : ℕ) → Above x []
unfolding member
above_nil x n e = absurd (tf e refl)

pub above_cons : (x z : ℕ) (l : List ℕ) → x < z → Above x l → Above x (z ∷ l)
above_cons x z l h a n e = elim (member_cons n z l e) [ inl p ↦ rw p h | inr p ↦ a n p ]

pub above_less : (x z : ℕ) (l : List ℕ) → x < z → Above z l → Above x l
above_less x z l h a n e = let q = a n e in omega arith

pub ascending_rising : (l : List ℕ) → ascending l ≡ true → Rising l
unfolding ascending
ascending_rising [] e = tt
ascending_rising (x ∷ []) e = (above_nil x, tt)
ascending_rising (x ∷ (z ∷ l)) e = go (ascending_rising (z ∷ l) (and_right (ltb x z) (ascending (z ∷ l)) e))
  where
    go : Rising (z ∷ l) → Rising (x ∷ (z ∷ l))
    go r = let h : x < z = ltb-true x z (and_left (ltb x z) (ascending (z ∷ l)) e) in (above_cons x z l h (above_less x z l h r.0), r)

pub rising_ascending : (l : List ℕ) → Rising l → ascending l ≡ true
unfolding ascending
rising_ascending [] r = refl
rising_ascending (x ∷ []) r = refl
rising_ascending (x ∷ (z ∷ l)) r = and_i (ltb x z) (ascending (z ∷ l)) (lt-ltb x z (r.0 z (member_here z z l refl))) (rising_ascending (z ∷ l) r.1)

-- ---- add, remove, keep, union
data Order? (k x : ℕ) : Type 0 where
  below : ltb k x ≡ true → k < x → Order? k x
  same : ltb k x ≡ false → eqb k x ≡ true → k ≡ x → Order? k x
  above : ltb k x ≡ false → eqb k x ≡ false → x < k → Order? k x

order? : (k x : ℕ) → Order? k x
order? k x = elim (bool? (ltb k x)) [
  | inl p ↦ below p (ltb-true k x p)
  | inr p ↦ (elim (bool? (eqb k x)) [
    | inl q ↦ same p q (eqb-true k x q)
    | inr q ↦ (let d = eqb-false k x q in let g = ltb-false k x p in above p q (omega arith))
  ])
]

module _ (k x : ℕ) (l : List ℕ) where
  add_below : ltb k x ≡ true → add_tag k (x ∷ l) ≡ k ∷ x ∷ l
  unfolding add_tag
  add_below p = if_true (ltb k x) _ _ p

  add_same : ltb k x ≡ false → eqb k x ≡ true → add_tag k (x ∷ l) ≡ x ∷ l
  unfolding add_tag
  add_same p q = if_false (ltb k x) _ _ p ∙ if_true (eqb k x) _ _ q

  add_above : ltb k x ≡ false → eqb k x ≡ false → add_tag k (x ∷ l) ≡ x ∷ add_tag k l
  unfolding add_tag
  add_above p q = if_false (ltb k x) _ _ p ∙ if_false (eqb k x) _ _ q

  remove_same : eqb k x ≡ true → remove_tag k (x ∷ l) ≡ l
  unfolding remove_tag
  remove_same p = if_true (eqb k x) _ _ p

  remove_other : eqb k x ≡ false → remove_tag k (x ∷ l) ≡ x ∷ remove_tag k l
  unfolding remove_tag
  remove_other p = if_false (eqb k x) _ _ p

module _ (p : ℕ → Bool) (x : ℕ) (l : List ℕ) where
  filter_in : p x ≡ true → filter p (x ∷ l) ≡ x ∷ filter p l
  unfolding filter
  filter_in e = if_true (p x) _ _ e

  filter_out : p x ≡ false → filter p (x ∷ l) ≡ filter p l
  unfolding filter
  filter_out e = if_false (p x) _ _ e

pub member_add : (n k : ℕ) (l : List ℕ) → member n (add_tag k l) ≡ (eqb n k || member n l)
unfolding member add_tag
member_add n k [] = refl
member_add n k (x ∷ l) = go (order? k x) (member_add n k l)
  where
    go : Order? k x → member n (add_tag k l) ≡ (eqb n k || member n l) → member n (add_tag k (x ∷ l)) ≡ (eqb n k || (eqb n x || member n l))
    go (below p h) ih = ap (member n) (add_below k x l p)
    go (same p q h) ih = ap (member n) (add_same k x l p q) ∙ rw h (or_again (eqb n x) (member n l))
    go (above p q h) ih = ap (member n) (add_above k x l p q) ∙ rw ih (or_swap (eqb n x) (eqb n k) (member n l))

pub member_filter : (n : ℕ) (p : ℕ → Bool) (l : List ℕ) → member n (filter p l) ≡ (p n && member n l)
unfolding member filter
member_filter n p [] = sym (and-false (p n))
member_filter n p (x ∷ l) = go (bool? (p x)) (ℕ_discrete n x) (member_filter n p l)
  where
    go : (p x ≡ true) ⊎ (p x ≡ false) → Dec (n ≡ x) → member n (filter p l) ≡ (p n && member n l)
        → member n (filter p (x ∷ l)) ≡ (p n && (eqb n x || member n l))
    go (inl t) (yes q) ih = ap (member n) (filter_in p x l t) ∙ (let pn : p n ≡ true = ap p q ∙ t in rw (eq-eqb n x q, pn))
    go (inl t) (no d) ih = ap (member n) (filter_in p x l t) ∙ rw (ne_eqb n x d) ih
    go (inr t) (yes q) ih = ap (member n) (filter_out p x l t) ∙ (let pn : p n ≡ false = ap p q ∙ t in ih ∙ rw pn)
    go (inr t) (no d) ih = ap (member n) (filter_out p x l t) ∙ rw (ne_eqb n x d) ih

pub member_union : (n : ℕ) (l m : List ℕ) → member n (union l m) ≡ (member n l || member n m)
unfolding member union
member_union n [] m = refl
member_union n (x ∷ l) m = member_add n x (union l m) ∙ rw (member_union n l m) (sym (or_assoc (eqb n x) (member n l) (member n m)))

pub member_remove : (n k : ℕ) (l : List ℕ) → Rising l → member n (remove_tag k l) ≡ (not (eqb n k) && member n l)
unfolding member remove_tag
member_remove n k [] r = sym (and-false (not (eqb n k)))
member_remove n k (x ∷ l) r = go (bool? (eqb k x)) (ℕ_discrete n k) (ℕ_discrete n x) (member_remove n k l r.1)
  where
    G : Type 0
    G = member n (remove_tag k (x ∷ l)) ≡ (not (eqb n k) && (eqb n x || member n l))

    go : (eqb k x ≡ true) ⊎ (eqb k x ≡ false) → Dec (n ≡ k) → Dec (n ≡ x) → member n (remove_tag k l) ≡ (not (eqb n k) && member n l) → G
    go (inl t) (yes q) e ih = ap (member n) (remove_same k x l t) ∙ rw (eq-eqb n k q) (out (bool? (member n l)))
      where
        out : (member n l ≡ true) ⊎ (member n l ≡ false) → member n l ≡ false
        out (inl u) = let h = r.0 n u in let z = eqb-true k x t in absurd (omega arith)
        out (inr u) = u
    go (inl t) (no d) (yes e) ih = absurd (d (e ∙ sym (eqb-true k x t)))
    go (inl t) (no d) (no e) ih = ap (member n) (remove_same k x l t) ∙ rw (ne_eqb n k d, ne_eqb n x e)
    go (inr t) (yes q) (yes e) ih = absurd (eqb-false k x t (sym q ∙ e))
    go (inr t) (yes q) (no e) ih = ap (member n) (remove_other k x l t) ∙ rw (ne_eqb n x e, ih, eq-eqb n k q)
    go (inr t) (no d) (yes e) ih = ap (member n) (remove_other k x l t) ∙ rw (eq-eqb n x e, ne_eqb n k d)
    go (inr t) (no d) (no e) ih = ap (member n) (remove_other k x l t) ∙ rw (ne_eqb n x e, ih)

pub rising_add : (k : ℕ) (l : List ℕ) → Rising l → Rising (add_tag k l)
unfolding add_tag
rising_add k [] r = (above_nil k, tt)
rising_add k (x ∷ l) r = go (order? k x) (rising_add k l r.1)
  where
    go : Order? k x → Rising (add_tag k l) → Rising (add_tag k (x ∷ l))
    go (below p h) ih = rw (add_below k x l p) (above_cons k x l h (above_less k x l h r.0), r)
    go (same p q h) ih = rw (add_same k x l p q) r
    go (above p q h) ih = rw (add_above k x l p q) (a, ih)
      where
        a : Above x (add_tag k l)
        a n e = elim (or_e (eqb n k) (member n l) (sym (member_add n k l) ∙ e)) [ inl t ↦ rw (eqb-true n k t) h | inr t ↦ r.0 n t ]

pub rising_remove : (k : ℕ) (l : List ℕ) → Rising l → Rising (remove_tag k l)
unfolding remove_tag
rising_remove k [] r = tt
rising_remove k (x ∷ l) r = go (bool? (eqb k x)) (rising_remove k l r.1)
  where
    go : (eqb k x ≡ true) ⊎ (eqb k x ≡ false) → Rising (remove_tag k l) → Rising (remove_tag k (x ∷ l))
    go (inl t) ih = rw (remove_same k x l t) r.1
    go (inr t) ih = rw (remove_other k x l t) ((λ n e. r.0 n (and_right (not (eqb n k)) (member n l) (sym (member_remove n k l r.1) ∙ e))), ih)

pub rising_filter : (p : ℕ → Bool) (l : List ℕ) → Rising l → Rising (filter p l)
unfolding filter
rising_filter p [] r = tt
rising_filter p (x ∷ l) r = go (bool? (p x)) (rising_filter p l r.1)
  where
    go : (p x ≡ true) ⊎ (p x ≡ false) → Rising (filter p l) → Rising (filter p (x ∷ l))
    go (inl t) ih = rw (filter_in p x l t) ((λ n e. r.0 n (and_right (p n) (member n l) (sym (member_filter n p l) ∙ e))), ih)
    go (inr t) ih = rw (filter_out p x l t) ih

pub rising_union : (l m : List ℕ) → Rising m → Rising (union l m)
unfolding union
rising_union [] m r = r
rising_union (x ∷ l) m r = rising_add x (union l m) (rising_union l m r)

pub length_add : (k : ℕ) (l : List ℕ) → length (add_tag k l) ≤ length l + 1
unfolding add_tag
length_add k [] = omega arith
length_add k (x ∷ l) = go (order? k x) (length_add k l)
  where
    go : Order? k x → length (add_tag k l) ≤ length l + 1 → length (add_tag k (x ∷ l)) ≤ suc (length l) + 1
    go (below p h) ih = rw (add_below k x l p) (omega arith)
    go (same p q h) ih = rw (add_same k x l p q) (omega arith)
    go (above p q h) ih = rw (add_above k x l p q) (omega arith)

pub length_remove : (k : ℕ) (l : List ℕ) → length (remove_tag k l) ≤ length l
unfolding remove_tag
length_remove k [] = omega arith
length_remove k (x ∷ l) = go (bool? (eqb k x)) (length_remove k l)
  where
    go : (eqb k x ≡ true) ⊎ (eqb k x ≡ false) → length (remove_tag k l) ≤ length l → length (remove_tag k (x ∷ l)) ≤ suc (length l)
    go (inl t) ih = rw (remove_same k x l t) (omega arith)
    go (inr t) ih = rw (remove_other k x l t) (omega arith)

-- ---- the same of the test `ascending`

pub ascending_tail : (x : ℕ) (l : List ℕ) → ascending (x ∷ l) ≡ true → ascending l ≡ true
ascending_tail x l h = rising_ascending l (ascending_rising (x ∷ l) h).1

pub ascending_add : (k : ℕ) (l : List ℕ) → ascending l ≡ true → ascending (add_tag k l) ≡ true
ascending_add k l h = rising_ascending (add_tag k l) (rising_add k l (ascending_rising l h))

pub ascending_filter : (p : ℕ → Bool) (l : List ℕ) → ascending l ≡ true → ascending (filter p l) ≡ true
ascending_filter p l h = rising_ascending (filter p l) (rising_filter p l (ascending_rising l h))

pub ascending_union : (l m : List ℕ) → ascending m ≡ true → ascending (union l m) ≡ true
ascending_union l m h = rising_ascending (union l m) (rising_union l m (ascending_rising m h))
