-- Laws of decimal numbers that the proofs of the functions cite, in the form in which loops and branches use them.
-- Assumes nothing.
use Rattle.std.specs.Prelude.{Some, None}
use mathlib.Core.Path.{◌≡◌, refl, ap}
use mathlib.Core.List.{List, [], ◌∷◌}
use Prim.Native.Nat.{ℕ, suc, ◌+◌, ◌-◌, ◌*◌, ◌<◌, ◌≤◌}
use native.Mathlib.Numerals.{add-one}
use native.Mathlib.Omega.{arith}
use borrow.Author.Tests.{eq-eqb, ne_eqb, le-leb, lt-leb}
use lib.ListN.{length, get_or, drop, drop_of_length-le}
use lib.Seq.{drop-cons}
use Rattle.session.specs.Grammar.{parse_digits, parse_number}

module _ (n : ℕ) (s : List ℕ) (i : ℕ) where
  pub digits_end : length s ≤ i → parse_digits n (drop i s) ≡ Some n
  unfolding parse_digits
  digits_end h = rw (drop_of_length-le s h)

  module _ (h : i < length s) (x : ℕ) (e : x ≡ get_or s i 0) where
    pub digits_low : x < 48 → parse_digits n (drop i s) ≡ None
    unfolding parse_digits
    digits_low l = rw (drop-cons s i 0 h, ← e, lt-leb _ _ l)

    pub digits_high : 48 ≤ x → 57 < x → parse_digits n (drop i s) ≡ None
    unfolding parse_digits
    digits_high l g = rw (drop-cons s i 0 h, ← e, le-leb _ _ l, lt-leb _ _ g)

    pub digits_over : 48 ≤ x → x ≤ 57 → 4294967295 < n * 10 + (x - 48) → parse_digits n (drop i s) ≡ None
    unfolding parse_digits
    digits_over l g o = rw (drop-cons s i 0 h, ← e, le-leb _ _ l, le-leb _ _ g, lt-leb _ _ o)

    pub digits_on : 48 ≤ x → x ≤ 57 → n * 10 + (x - 48) ≤ 4294967295 → parse_digits n (drop i s) ≡ parse_digits (n * 10 + (x - 48)) (drop (i + 1) s)
    unfolding parse_digits
    digits_on l g o = rw (add-one, drop-cons s i 0 h, ← e, le-leb _ _ l, le-leb _ _ g, le-leb _ _ o)

-- what a loop over the digits uses
pub ruleset digit_steps = (digits_low, digits_high, digits_over, digits_on, digits_end)

-- a number by its first byte
pub number_none : (s : List ℕ) → length s ≡ 0 → parse_number s ≡ None
unfolding parse_number
number_none [] h = refl
number_none (x ∷ xs) h = absurd (omega arith)

pub number_zero : (s : List ℕ) → length s ≡ 1 → get_or s 0 0 ≡ 48 → parse_number s ≡ Some 0
unfolding parse_number
number_zero [] h e = absurd (omega arith)
number_zero (x ∷ xs) h e = let k : length xs ≡ 0 = omega arith in rw (eq-eqb _ _ e, k)

pub number_led : (s : List ℕ) → (length s ≡ 0 → ⊥) → (length s ≡ 1 → ⊥) → get_or s 0 0 ≡ 48 → parse_number s ≡ None
unfolding parse_number
number_led [] z h e = absurd (z refl)
number_led (x ∷ xs) z h e = rw (eq-eqb _ _ e, ne_eqb (length xs) 0 (λ q. h (ap suc q)))

pub number_run : (s : List ℕ) → (length s ≡ 0 → ⊥) → (get_or s 0 0 ≡ 48 → ⊥) → parse_number s ≡ parse_digits 0 s
unfolding parse_number
number_run [] z n = absurd (z refl)
number_run (x ∷ xs) z n = rw (ne_eqb _ _ n)

pub ruleset number_cases = (number_none, number_zero, number_led, number_run)
