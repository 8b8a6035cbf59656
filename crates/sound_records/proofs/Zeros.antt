-- Words that are all 0, tested by their bitwise or: it is 0 exactly where each is. One law for a turn of the loop and one for its end.
-- Assumes nothing.
use mathlib.Core.Path.{◌≡◌, refl}
use mathlib.Core.List.{List, [], ◌∷◌}
use mathlib.Core.Bool.{◌&&◌}
use Prim.Native.Nat.{ℕ, zero, suc, ◌+◌, ◌<◌, ◌≤◌}
use native.Mathlib.Omega.{arith}
use borrow.Author.Tests.{ne_eqb}
use lib.Bits.{bit_or, or_zero_l, or_add_and, and_le_r}
use lib.Dec.{eqb}
use lib.ListN.{length, get_or, take, drop}
use Rattle.spec.specs.Lists.{every}
use Rattle.spec.specs.Sound.{zeros}
use Rattle.sound_records.proofs.Joined.{every_turn, every_end}

or_of_nonzero : (a x : ℕ) → (a ≡ 0 → ⊥) → bit_or a x ≡ 0 → ⊥
or_of_nonzero a x h e =
    let s = or_add_and a x in
    let r = and_le_r a x in
    h (omega arith)

or_zero : (a x : ℕ) → eqb (bit_or a x) 0 ≡ (eqb a 0 && eqb x 0)
or_zero zero x = rw or_zero_l
or_zero (suc a) x = rw (ne_eqb (bit_or (suc a) x) 0 (or_of_nonzero (suc a) x (λ e. omega arith)), ne_eqb (suc a) 0 (λ e. omega arith))

-- the first n words
pub zeros_every : (n : ℕ) (w : List ℕ) → zeros n w ≡ every (λ x. eqb x 0) (take n w)
unfolding zeros every
zeros_every zero w = refl
zeros_every (suc n) [] = refl
zeros_every (suc n) (x ∷ w) = rw (zeros_every n w)

module _ (s : List ℕ) (i a : ℕ) where
  pub or_turn : i < length s
      → (eqb (bit_or a (get_or s i 0)) 0 && every (λ x. eqb x 0) (drop (i + 1) s)) ≡ (eqb a 0 && every (λ x. eqb x 0) (drop i s))
  or_turn h = rw (or_zero a (get_or s i 0)) (every_turn (λ x. eqb x 0) s i (eqb a 0) h)

  pub or_end : length s ≤ i → (eqb a 0 && every (λ x. eqb x 0) (drop i s)) ≡ eqb a 0
  or_end h = every_end (λ x. eqb x 0) s i (eqb a 0) h
