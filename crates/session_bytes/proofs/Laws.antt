-- Laws of printing that the proofs of the functions cite, in the form in which loops and branches use them.
-- Assumes nothing.
use mathlib.Core.Path.{◌≡◌, refl, sym, ap, ◌∙◌}
use mathlib.Core.List.{List, [], ◌∷◌, ◌++◌}
use Prim.Native.Nat.{ℕ, zero, suc, ◌+◌, ◌-◌, ◌/◌, ◌%◌, ◌<◌, ◌≤◌}
use native.Mathlib.Numerals.{add-one}
use native.Mathlib.Omega.{arith}
use borrow.Author.Tests.{lt-ltb, le-ltb}
use lib.ListN.{length, get_or, drop, set, drop_of_length-le}
use lib.Seq.{drop-cons}
use Rattle.session.specs.Print.{decimal_digits}
use Rattle.session.specs.BufferLaws.{append_both, append_length, append_within}
use Rattle.session.specs.Buffer.{Buffer, buffer, append_byte, append}

-- ---- bytes

pub append_in : (bytes : List ℕ) (at b : ℕ) → at < length bytes → append_byte b (buffer bytes at) ≡ buffer (set bytes at b) (at + 1)
unfolding append_byte
append_in bytes at b h = rw (lt-ltb _ _ h)

pub append_out : (bytes : List ℕ) (at b : ℕ) → length bytes ≤ at → append_byte b (buffer bytes at) ≡ buffer bytes at
unfolding append_byte
append_out bytes at b h = rw (le-ltb _ _ h)

pub append_on : (s : List ℕ) (i : ℕ) (t : Buffer) → i < length s → append (drop i s) t ≡ append (drop (i + 1) s) (append_byte (get_or s i 0) t)
unfolding append
append_on s i t h = rw (add-one, drop-cons s i 0 h)

pub append_end : (s : List ℕ) (i : ℕ) (t : Buffer) → length s ≤ i → append (drop i s) t ≡ t
unfolding append
append_end s i t h = rw (drop_of_length-le s h)

pub append_one : (b : ℕ) (t : Buffer) → append (b ∷ []) t ≡ append_byte b t
unfolding append
append_one b t = refl

-- no digit allowed; a number below ten, and one from ten on
pub digits_none : (p n : ℕ) (t : Buffer) → p ≡ 0 → append (decimal_digits p n) t ≡ t
unfolding decimal_digits append
digits_none p n t h = rw h

pub digits_one : (p n : ℕ) (t : Buffer) → (p ≡ 0 → ⊥) → n < 10 → append (decimal_digits p n) t ≡ append_byte (48 + n) t
unfolding decimal_digits append
digits_one zero n t z h = absurd (z refl)
digits_one (suc p) n t z h = rw (lt-ltb _ _ h)

pub digits_more : (p n : ℕ) (t : Buffer) → (p ≡ 0 → ⊥) → 10 ≤ n
    → append (decimal_digits p n) t ≡ append_byte (48 + n % 10) (append (decimal_digits (p - 1) (n / 10)) t)
unfolding decimal_digits
digits_more zero n t z h = absurd (z refl)
digits_more (suc p) n t z h =
    let e : suc p - 1 ≡ p = omega arith in
    rw (le-ltb _ _ h, e) (append_both (decimal_digits p (n / 10)) ((48 + n % 10) ∷ []) t ∙ append_one _ _)

-- several printed one after the other
pub append_2 : (x y : List ℕ) (t u v : Buffer) → u ≡ append x t → v ≡ append y u → v ≡ append (x ++ y) t
append_2 x y t u v p q = q ∙ ap (append y) p ∙ sym (append_both x y t)

pub append_3 : (x y z : List ℕ) (t u v w : Buffer) → u ≡ append x t → v ≡ append y u → w ≡ append z v → w ≡ append (x ++ y ++ z) t
append_3 x y z t u v w p q r = append_2 (x ++ y) z t v w (append_2 x y t u v p q) r

-- what is printed from a buffer's first byte on keeps its length, and ends within it
pub length_kept : (bs before after : List ℕ) (count : ℕ) → buffer after count ≡ append bs (buffer before 0) → length after ≡ length before
length_kept bs before after count e = ap (λ (t : Buffer). length t.bytes) e ∙ append_length bs (buffer before 0)

pub ends_within : (bs before after : List ℕ) (count : ℕ) → buffer after count ≡ append bs (buffer before 0) → count ≤ length after
ends_within bs before after count e = omega (arith, append_within bs before after count e, length_kept bs before after count e)

-- what the functions that print several parts use
pub ruleset parts = (append_both, append_one)

pub ruleset digit_cases = (digits_none, digits_one, digits_more)
