-- Tests and their facts: a boolean seen as true or false, joined tests taken apart and put together, a decided choice seen as
-- hit or miss. Assumes nothing.
use Rattle.std.specs.Prelude.{ℕ, zero, suc, get_or, ◌≡◌, refl, ◌⊎◌, List, [], ◌∷◌, Bool, true, false, ◌&&◌, ◌||◌, if◌then◌else◌}
use Rattle.std.proofs.Common.{sym, inl, inr, arith}
use Rattle.spec.specs.Lists.{all_true}

-- what u is, that is v where P holds and w elsewhere
pub data At {A : Type 0} (P : Type 0) (v w u : A) : Type 0 where
  hit : P → u ≡ v → At P v w u
  miss : ¬ P → u ≡ w → At P v w u

pub at_hit : {A : Type 0} {P : Type 0} {v w u : A} → P → At P v w u → u ≡ v
at_hit p (hit q e) = e
at_hit p (miss n e) = absurd (n p)

pub at_miss : {A : Type 0} {P : Type 0} {v w u : A} → ¬ P → At P v w u → u ≡ w
at_miss n (hit q e) = absurd (n q)
at_miss n (miss m e) = e

pub bool? : (b : Bool) → (b ≡ true) ⊎ (b ≡ false)
bool? true = inl refl
bool? false = inr refl

pub tf : {b : Bool} → b ≡ true → b ≡ false → ⊥
tf e f = let z : ◌≡◌ {A = ℕ} 0 1 = cc in omega arith

-- ---- joined tests

pub and_left : (a b : Bool) → (a && b) ≡ true → a ≡ true
and_left true b e = refl
and_left false b e = e

pub and_right : (a b : Bool) → (a && b) ≡ true → b ≡ true
and_right true b e = e
and_right false b e = absurd (tf e refl)

pub and_i : (a b : Bool) → a ≡ true → b ≡ true → (a && b) ≡ true
and_i a b e f = rw (e, f)

pub or_e : (a b : Bool) → (a || b) ≡ true → (a ≡ true) ⊎ (b ≡ true)
or_e true b e = inl refl
or_e false b e = inr e

pub or_l : (a b : Bool) → a ≡ true → (a || b) ≡ true
or_l a b e = rw e

pub or_r : (a b : Bool) → b ≡ true → (a || b) ≡ true
or_r true b e = refl
or_r false b e = e

pub or_none : (a b : Bool) → (a || b) ≡ false → (a ≡ false) × (b ≡ false)
or_none true b e = absurd (tf refl e)
or_none false b e = (refl, e)

pub and_none : (a b : Bool) → (a && b) ≡ false → a ≡ true → b ≡ false
and_none a b e f = rw f at e

pub and2 : (a b : Bool) → (a && b) ≡ true → (a ≡ true) × (b ≡ true)
and2 a b p = (and_left a b p, and_right a b p)

pub and3 : (a b c : Bool) → (a && b && c) ≡ true → (a ≡ true) × (b ≡ true) × (c ≡ true)
and3 a b c p = let q = and2 a b (and_left (a && b) c p) in (q.0, q.1, and_right (a && b) c p)

pub and4 : (a b c d : Bool) → (a && b && c && d) ≡ true → (a ≡ true) × (b ≡ true) × (c ≡ true) × (d ≡ true)
and4 a b c d p = let q = and3 a b c (and_left (a && b && c) d p) in (q.0, q.1, q.2, and_right (a && b && c) d p)

pub and4_i : (a b c d : Bool) → a ≡ true → b ≡ true → c ≡ true → d ≡ true → (a && b && c && d) ≡ true
and4_i a b c d p0 p1 p2 p3 = rw (p0, p1, p2, p3)

pub and5 : (a b c d e : Bool) → (a && b && c && d && e) ≡ true → (a ≡ true) × (b ≡ true) × (c ≡ true) × (d ≡ true) × (e ≡ true)
and5 a b c d e p = let q = and4 a b c d (and_left (a && b && c && d) e p) in (q.0, q.1, q.2, q.3, and_right (a && b && c && d) e p)

pub and6 : (a b c d e f : Bool) → (a && b && c && d && e && f) ≡ true → (a ≡ true) × (b ≡ true) × (c ≡ true) × (d ≡ true) × (e ≡ true) × (f ≡ true)
and6 a b c d e f p = let q = and5 a b c d e (and_left (a && b && c && d && e) f p) in (q.0, q.1, q.2, q.3, q.4, and_right (a && b && c && d && e) f p)

pub and6_i : (a b c d e f : Bool) → a ≡ true → b ≡ true → c ≡ true → d ≡ true → e ≡ true → f ≡ true → (a && b && c && d && e && f) ≡ true
and6_i a b c d e f p0 p1 p2 p3 p4 p5 = rw (p0, p1, p2, p3, p4, p5)

-- ---- a list of tests that all pass: the i-th of them passes; and from the fact of each back to all

pub passes : (bs : List Bool) → all_true bs ≡ true → (i : ℕ) → get_or bs i true ≡ true
unfolding all_true
passes [] e i = refl
passes (b ∷ bs) e zero = and_left b (all_true bs) e
passes (b ∷ bs) e (suc i) = passes bs (and_right b (all_true bs) e) i

infixr 4 ◌also◌
pub data Passed : List Bool → Type 0 where
  no_more : Passed []
  ◌also◌ : {b : Bool} {bs : List Bool} → b ≡ true → Passed bs → Passed (b ∷ bs)

pub all_pass : {bs : List Bool} → Passed bs → all_true bs ≡ true
unfolding all_true
all_pass no_more = refl
all_pass (◌also◌ {b} {bs} p q) = and_i b (all_true bs) p (all_pass q)

pub or_none_i : (a b : Bool) → a ≡ false → b ≡ false → (a || b) ≡ false
or_none_i a b p0 p1 = rw (p0, p1)

pub or_none3 : (a b c : Bool) → (a || b || c) ≡ false → (a ≡ false) × (b ≡ false) × (c ≡ false)
or_none3 a b c p = let r = or_none (a || b) c p in let q = or_none a b r.0 in (q.0, q.1, r.1)

-- a test that never passes where another does
pub and_never : (a b : Bool) → (a ≡ true → b ≡ false) → (a && b) ≡ false
and_never true b h = h refl
and_never false b h = refl

-- two tests that pass at the same time are equal
pub same_test : (a b : Bool) → (a ≡ true → b ≡ true) → (b ≡ true → a ≡ true) → a ≡ b
same_test true b f g = sym (f refl)
same_test false true f g = g refl
same_test false false f g = refl

pub if_true : {A : Type 0} (b : Bool) (u v : A) → b ≡ true → (if b then u else v) ≡ u
if_true b u v e = rw e

pub if_false : {A : Type 0} (b : Bool) (u v : A) → b ≡ false → (if b then u else v) ≡ v
if_false b u v e = rw e

-- what holds of both, each under its test, holds of the choice
pub choose : {A : Type 0} (P : A → Type 0) (b : Bool) (u v : A) → (b ≡ true → P u) → (b ≡ false → P v) → P (if b then u else v)
choose P true u v p q = p refl
choose P false u v p q = q refl

pub or_case : (a b : Bool) {P : Type 0} → (a || b) ≡ true → (a ≡ true → P) → (b ≡ true → P) → P
or_case true b h f g = f refl
or_case false b h f g = g h

pub or_swap : (a b c : Bool) → (a || (b || c)) ≡ (b || (a || c))
or_swap true true c = refl
or_swap true false c = refl
or_swap false true c = refl
or_swap false false c = refl

pub or_again : (a b : Bool) → (a || b) ≡ (a || (a || b))
or_again true b = refl
or_again false b = refl
