-- As many different numbers below a bound are no more than the bound. Assumes nothing.
use Rattle.std.specs.Prelude.{◌<◌, ◌≤◌, suc, zero, ℕ, ◌||◌, false, true, List, [], ◌∷◌, ◌⊎◌, ◌≡◌, refl, eqb, ltb, length, if◌then◌else◌}
use Rattle.std.proofs.Common.{inl, inr, ◌∙◌, ap, sym, arith, eq-eqb, eqb-true}
use Rattle.std.proofs.Math.Decide.{ℕ_discrete}
use Rattle.spec.specs.Lists.{add_tag, member}
use Rattle.laws.specs.Ascending.{Rising, member_add, rising_add}
use Rattle.laws.specs.Lists.{no_member}
use Rattle.laws.specs.SameTags.{part_length}
use Rattle.laws.specs.Tests.{bool?, choose, if_false, or_e, or_l, or_none, or_r}

-- a tag that is not there makes the list one longer
new_length : (k : ℕ) (l : List ℕ) → member k l ≡ false → length (add_tag k l) ≡ suc (length l)
unfolding member add_tag
new_length k [] e = refl
new_length k (x ∷ l) e =
    let p = or_none (eqb k x) (member k l) e in
    choose (λ (r : List ℕ). length r ≡ suc (suc (length l))) (ltb k x) (k ∷ x ∷ l) (if eqb k x then (x ∷ l) else (x ∷ add_tag k l)) (λ a. refl)
    (λ a. ap length (if_false (eqb k x) (x ∷ l) (x ∷ add_tag k l) p.0) ∙ ap suc (new_length k l p.1))

-- f 0, .., f (n - 1), ascending
abbrev values : (ℕ → ℕ) → ℕ → List ℕ
values f zero = []
values f (suc n) = add_tag (f n) (values f n)

rising_values : (f : ℕ → ℕ) (n : ℕ) → Rising (values f n)
rising_values f zero = tt
rising_values f (suc n) = rising_add (f n) (values f n) (rising_values f n)

-- a member is a value
value : (f : ℕ → ℕ) (n k : ℕ) → member k (values f n) ≡ true → (v : ℕ) × (v < n) × (f v ≡ k)
value f zero k e = absurd (no_member k e)
value f (suc n) k e = elim (or_e (eqb k (f n)) (member k (values f n)) (sym (member_add k (f n) (values f n)) ∙ e)) [
  | inl q ↦ (n, omega arith, sym (eqb-true k (f n) q))
  | inr q ↦ (let r = value f n k q in let b = r.1 in (r.0, omega arith, r.2))
]

is_value : (f : ℕ → ℕ) (n v : ℕ) → v < n → member (f v) (values f n) ≡ true
is_value f zero v b = absurd (omega arith)
is_value f (suc n) v b = member_add (f v) (f n) (values f n) ∙ go (ℕ_discrete v n) (is_value f n v)
  where
    go : Dec (v ≡ n) → (v < n → member (f v) (values f n) ≡ true) → (eqb (f v) (f n) || member (f v) (values f n)) ≡ true
    go (yes q) ih = or_l (eqb (f v) (f n)) (member (f v) (values f n)) (eq-eqb (f v) (f n) (ap f q))
    go (no q) ih = or_r (eqb (f v) (f n)) (member (f v) (values f n)) (ih (omega arith))

length_values : (f : ℕ → ℕ) (n : ℕ) → ((v u : ℕ) → v < n → u < n → f v ≡ f u → v ≡ u) → length (values f n) ≡ n
length_values f zero one = refl
length_values f (suc n) one =
    new_length (f n) (values f n) (out (bool? (member (f n) (values f n))))
    ∙ ap suc (length_values f n (λ v u a b. one v u (omega arith) (omega arith)))
  where
    out : (member (f n) (values f n) ≡ true) ⊎ (member (f n) (values f n) ≡ false) → member (f n) (values f n) ≡ false
    out (inl e) = let r = value f n (f n) e in let b = r.1 in let q = one r.0 n (omega arith) (omega arith) r.2 in absurd (omega arith)
    out (inr e) = e

pub pigeonholes : (f : ℕ → ℕ) (n b : ℕ) → ((v : ℕ) → v < n → f v < b) → ((v u : ℕ) → v < n → u < n → f v ≡ f u → v ≡ u) → n ≤ b
pigeonholes f n b low one =
    let p = part_length (values f n) (values (λ x. x) b) (rising_values f n) (rising_values (λ x. x) b) inside in
    let l = length_values f n one in
    let m = length_values (λ x. x) b (λ v u a c e. e) in
    omega arith
  where
    inside : (k : ℕ) → member k (values f n) ≡ true → member k (values (λ x. x) b) ≡ true
    inside k e = let r = value f n k e in rw (← r.2) (is_value (λ x. x) b (f r.0) (low r.0 r.1))
