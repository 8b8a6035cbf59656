-- Members of a list, tests that pass at each element, words that are 0. Assumes nothing.
use Rattle.std.specs.Prelude.{ℕ, zero, suc, ◌+◌, ◌-◌, ◌<◌, ◌≤◌, ◌≡◌, ◌⊎◌, Bool, true, false, ◌||◌, List, [], ◌∷◌, ◌++◌, eqb, get_or, take}
use Rattle.std.proofs.Math.Path.{refl}
use Rattle.std.proofs.Common.{inl, inr, arith, eqb-true, eq-eqb}
use Rattle.spec.specs.Lists.{member, every, range}
use Rattle.spec.specs.Sound.{zeros}
use Rattle.laws.specs.Tests.{tf, and_left, and_right, and_i, or_e, or_l, or_r}

pub member_cons : (n x : ℕ) (l : List ℕ) → member n (x ∷ l) ≡ true → (n ≡ x) ⊎ (member n l ≡ true)
unfolding member
member_cons n x l e = elim (or_e (eqb n x) (member n l) e) [ inl a ↦ inl (eqb-true n x a) | inr b ↦ inr b ]

pub member_here : (n x : ℕ) (l : List ℕ) → n ≡ x → member n (x ∷ l) ≡ true
unfolding member
member_here n x l e = or_l (eqb n x) (member n l) (eq-eqb n x e)

pub member_there : (n x : ℕ) (l : List ℕ) → member n l ≡ true → member n (x ∷ l) ≡ true
unfolding member
member_there n x l e = or_r (eqb n x) (member n l) e

pub no_member : (n : ℕ) → member n [] ≡ true → ⊥
unfolding member
no_member n e = tf e refl

pub member_append : (n : ℕ) (l m : List ℕ) → member n (l ++ m) ≡ (member n l || member n m)
unfolding member
member_append n [] m = refl
member_append n (x ∷ l) m = go (eqb n x) (member_append n l m)
  where
    go : (b : Bool) → member n (l ++ m) ≡ (member n l || member n m) → (b || member n (l ++ m)) ≡ ((b || member n l) || member n m)
    go true ih = refl
    go false ih = ih

-- i, i + 1, .., n numbers in all
pub range_low : (x i n : ℕ) → member x (range i n) ≡ true → (i ≤ x) × (x < i + n)
unfolding range
range_low x i zero e = absurd (no_member x e)
range_low x i (suc n) e = elim (member_cons x i (range (suc i) n) e) [
  | inl h ↦ (omega arith, omega arith)
  | inr h ↦ (let q = range_low x (suc i) n h in (omega arith, omega arith))
]

pub range_has : (x i n : ℕ) → i ≤ x → x < i + n → member x (range i n) ≡ true
unfolding range
range_has x i zero h l = absurd (omega arith)
range_has x i (suc n) h l = go (x - i) refl (range_has x (suc i) n)
  where
    go : (d : ℕ) → x - i ≡ d → (suc i ≤ x → x < suc i + n → member x (range (suc i) n) ≡ true) → member x (i ∷ range (suc i) n) ≡ true
    go zero e ih = member_here x i (range (suc i) n) (omega arith)
    go (suc d) e ih = member_there x i (range (suc i) n) (ih (omega arith) (omega arith))

module _ {A : Type 0} (f : A → Bool) where
  pub every_head : (x : A) (l : List A) → every f (x ∷ l) ≡ true → f x ≡ true
  unfolding every
  every_head x l e = and_left (f x) (every f l) e

  pub every_tail : (x : A) (l : List A) → every f (x ∷ l) ≡ true → every f l ≡ true
  unfolding every
  every_tail x l e = and_right (f x) (every f l) e

  pub every_cons : (x : A) (l : List A) → f x ≡ true → every f l ≡ true → every f (x ∷ l) ≡ true
  unfolding every
  every_cons x l e g = and_i (f x) (every f l) e g

  pub every_nil : every f [] ≡ true
  unfolding every
  every_nil = refl

pub every_at : (f : ℕ → Bool) → f 0 ≡ true → (l : List ℕ) → every f l ≡ true → (i : ℕ) → f (get_or l i 0) ≡ true
unfolding every
every_at f z [] e i = z
every_at f z (x ∷ l) e zero = and_left (f x) (every f l) e
every_at f z (x ∷ l) e (suc i) = every_at f z l (and_right (f x) (every f l) e) i

pub every_take : (f : ℕ → Bool) (n : ℕ) (l : List ℕ) → ((i : ℕ) → i < n → f (get_or l i 0) ≡ true) → every f (take n l) ≡ true
unfolding every
every_take f zero l h = refl
every_take f (suc n) [] h = refl
every_take f (suc n) (x ∷ l) h = and_i (f x) (every f (take n l)) (h 0 (omega arith)) (every_take f n l (λ i p. h (suc i) (omega arith)))

pub zeros_at : (n : ℕ) (l : List ℕ) → zeros n l ≡ true → (i : ℕ) → i < n → get_or l i 0 ≡ 0
unfolding zeros
zeros_at zero l e i h = absurd (omega arith)
zeros_at (suc n) [] e i h = refl
zeros_at (suc n) (x ∷ l) e zero h = eqb-true x 0 (and_left (eqb x 0) (zeros n l) e)
zeros_at (suc n) (x ∷ l) e (suc i) h = zeros_at n l (and_right (eqb x 0) (zeros n l) e) i (omega arith)

pub all_zeros : (n : ℕ) (l : List ℕ) → ((i : ℕ) → i < n → get_or l i 0 ≡ 0) → zeros n l ≡ true
unfolding zeros
all_zeros zero l h = refl
all_zeros (suc n) [] h = refl
all_zeros (suc n) (x ∷ l) h = and_i (eqb x 0) (zeros n l) (eq-eqb x 0 (h 0 (omega arith))) (all_zeros n l (λ i p. h (suc i) (omega arith)))
