-- Tests joined one by one, with no exit on the way: whether those passed and those to come all hold. One law for a turn of the loop
-- and one for its end, of conditions and of words that pass a test. Assumes nothing.
use mathlib.Core.Path.{◌≡◌, refl, sym, ap, ◌∙◌}
use mathlib.Core.List.{List, [], ◌∷◌}
use mathlib.Core.Bool.{Bool, true, false, ◌&&◌}
use Prim.Native.Nat.{ℕ, zero, suc, ◌+◌, ◌-◌, ◌<◌, ◌≤◌}
use native.Mathlib.Numerals.{add-one}
use native.Mathlib.Omega.{arith}
use borrow.Author.Tests.{le-leb, eqb-true}
use lib.Dec.{leb, eqb}
use lib.ListN.{length, get_or, take, drop, drop_of_length-le}
use lib.Seq.{drop-cons, drop-drop}
use Rattle.spec.specs.Lists.{all_true, every}
use Rattle.spec.specs.Sound.{zeros}

pub and_assoc : (p q r : Bool) → ((p && q) && r) ≡ (p && (q && r))
and_assoc true q r = refl
and_assoc false q r = refl

pub and_true : (p : Bool) → (p && true) ≡ p
and_true true = refl
and_true false = refl

pub and-false : (p : Bool) → (p && false) ≡ false
and-false true = refl
and-false false = refl

-- what `p && q` gives, by how the test of p went
pub and_then : {p q v : Bool} → p ≡ true → v ≡ q → v ≡ (p && q)
and_then h e = rw h e

pub and_else : {p v : Bool} (q : Bool) → p ≡ false → v ≡ false → v ≡ (p && q)
and_else q h e = rw h e

module _ (w : List Bool) (i : ℕ) (a : Bool) where
  pub all_turn : i < length w → ((a && get_or w i false) && all_true (drop (i + 1) w)) ≡ (a && all_true (drop i w))
  unfolding all_true
  all_turn h = rw (add-one, drop-cons w i false h) (and_assoc a (get_or w i false) (all_true (drop (suc i) w)))

  pub all_end : length w ≤ i → (a && all_true (drop i w)) ≡ a
  unfolding all_true
  all_end h = rw (drop_of_length-le w h) (and_true a)

module _ (f : ℕ → Bool) (s : List ℕ) (i : ℕ) (a : Bool) where
  pub every_turn : i < length s → ((a && f (get_or s i 0)) && every f (drop (i + 1) s)) ≡ (a && every f (drop i s))
  unfolding every
  every_turn h = rw (add-one, drop-cons s i 0 h) (and_assoc a (f (get_or s i 0)) (every f (drop (suc i) s)))

  pub every_end : length s ≤ i → (a && every f (drop i s)) ≡ a
  unfolding every
  every_end h = rw (drop_of_length-le s h) (and_true a)

-- ---- places: where those from n on are 0, only the first n are to be tested

module _ (b : ℕ) where
  -- words that are 0 are not above b
  zeros_within : (m : ℕ) (p : List ℕ) → (every (λ l. leb l b) (take m p) && zeros m p) ≡ zeros m p
  unfolding every zeros
  zeros_within zero p = refl
  zeros_within (suc m) [] = refl
  zeros_within (suc m) (x ∷ p) = go (eqb x 0) refl (zeros_within m p)
    where
      go : (e : Bool) → eqb x 0 ≡ e → (every (λ l. leb l b) (take m p) && zeros m p) ≡ zeros m p
          → ((leb x b && every (λ l. leb l b) (take m p)) && (e && zeros m p)) ≡ (e && zeros m p)
      go true q rest = let z : x ≤ b = rw (eqb-true x 0 q) (omega arith) in rw (le-leb x b z) rest
      go false q rest = and-false (leb x b && every (λ l. leb l b) (take m p))

  places_used : (n m : ℕ) (p : List ℕ) → n ≤ m
      → (every (λ l. leb l b) (take m p) && zeros (m - n) (drop n p)) ≡ (every (λ l. leb l b) (take n p) && zeros (m - n) (drop n p))
  unfolding every zeros
  places_used zero m p h = let e : m - 0 ≡ m = omega arith in rw e (zeros_within m p)
  places_used (suc n) zero p h = absurd (omega arith)
  places_used (suc n) (suc m) [] h = refl
  places_used (suc n) (suc m) (x ∷ p) h =
      let e : suc m - suc n ≡ m - n = omega arith in
      let l = leb x b in
      let z = zeros (m - n) (drop n p) in
      let law = places_used n m p (omega arith) in
      rw e (and_assoc l (every (λ l. leb l b) (take m p)) z ∙ ap (λ (r : Bool). l && r) law ∙ sym (and_assoc l (every (λ l. leb l b) (take n p)) z))

  -- of a node of size n: its words 2 up to 2 + n
  pub node_places : (n : ℕ) (w : List ℕ) → n ≤ 32
      → (every (λ l. leb l b) (take 32 (drop 2 w)) && zeros (32 - n) (drop (2 + n) w))
      ≡ (every (λ l. leb l b) (take (2 + n - 2) (drop 2 w)) && zeros (32 - n) (drop (2 + n) w))
  node_places n w h = let e : 2 + n - 2 ≡ n = omega arith in rw (e, sym (drop-drop n 2 w)) (places_used n 32 (drop 2 w) h)
