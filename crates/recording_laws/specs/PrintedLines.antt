-- Each line that a session prints is bytes without byte 10, closed by one: `output_closed`, `key_closed`. For it is put together of
-- fixed words and of digits, which are at least 48. Assumes nothing.
use Rattle.std.specs.Prelude.{◌≡◌, refl, List, [], ◌∷◌, ◌++◌, Bool, true, false, ℕ, zero, suc, ◌+◌, ◌/◌, ◌%◌, ltb, if◌then◌else◌, Option, Some, None, Ok, Err}
use Rattle.std.proofs.Common.{arith, ne_eqb}
use Rattle.spec.specs.declared.Answer.{Answer}
use Rattle.spec.specs.declared.Answer.TheVariants.{Yes, No, Full, Done, Lost, Limit}
use Rattle.spec.specs.Outputs.{Output}
use Rattle.spec.specs.declared.Progress.TheVariants.{At, End}
use Rattle.spec.specs.Lists.{every}
use Rattle.spec.specs.Numbers.{refusal_number}
use Rattle.session.specs.Keys.{comma, at_key, end_key, refuse_key}
use Rattle.session.specs.Print.{decimal_digits, decimal, key_line, answer_word, occupancy_field, refusal_line, output_line}
use Rattle.recording.specs.Recording.{close}
use Rattle.recording_laws.specs.ClosedLines.{without_newline, plain_append}

-- bytes that are a line's, closed
pub record ClosedBytes (written : List ℕ) : Type 0 where
  pub line : List ℕ
  pub plain : without_newline line ≡ true
  pub closed : written ≡ close line

digit_plain : (d : ℕ) → without_newline ((48 + d) ∷ []) ≡ true
unfolding without_newline every
digit_plain d =
    let z : 48 + d ≡ 10 → ⊥ = λ e. omega arith in
    rw (ne_eqb _ _ z)

digits_plain : (p n : ℕ) → without_newline (decimal_digits p n) ≡ true
unfolding decimal_digits without_newline every
digits_plain zero n = refl
digits_plain (suc p) n = go (ltb n 10) (digits_plain p (n / 10))
  where
    go : (b : Bool) → without_newline (decimal_digits p (n / 10)) ≡ true
        → without_newline (if b then ((48 + n) ∷ []) else (decimal_digits p (n / 10) ++ ((48 + n % 10) ∷ []))) ≡ true
    go true ih = digit_plain n
    go false ih = plain_append (decimal_digits p (n / 10)) _ ih (digit_plain (n % 10))

decimal_plain : (n : ℕ) → without_newline (decimal n) ≡ true
unfolding decimal
decimal_plain n = digits_plain 20 n

word_plain : (a : Answer) → without_newline (answer_word a) ≡ true
unfolding answer_word without_newline every
word_plain Yes = refl
word_plain No = refl
word_plain Full = refl
word_plain Done = refl
word_plain Lost = refl
word_plain Limit = refl

field_plain : (full : Option ℕ) → without_newline (occupancy_field full) ≡ true
unfolding occupancy_field without_newline every
field_plain None = refl
field_plain (Some n) = plain_append (comma ∷ []) (decimal n) refl (decimal_plain n)

-- ---- bytes with their proof, put together as the printed lines are

record Plain : Type 0 where
  bytes : List ℕ
  plain : without_newline bytes ≡ true

abbrev fixed : (s : List ℕ) → without_newline s ≡ true → Plain
fixed s p = record { bytes = s; plain = p }

abbrev number : ℕ → Plain
number n = record { bytes = decimal n; plain = decimal_plain n }

abbrev word : Answer → Plain
word a = record { bytes = answer_word a; plain = word_plain a }

abbrev field : Option ℕ → Plain
field full = record { bytes = occupancy_field full; plain = field_plain full }

infixl 5 ◌then◌
abbrev ◌then◌ : Plain → Plain → Plain
s then t = record { bytes = s.bytes ++ t.bytes; plain = plain_append s.bytes t.bytes s.plain t.plain }

abbrev closing : (s : Plain) → ClosedBytes (close s.bytes)
closing s = record { line = s.bytes; plain = s.plain; closed = refl }

pub key_closed : (key : List ℕ) (n : ℕ) → without_newline key ≡ true → ClosedBytes (key_line key n)
unfolding key_line
key_closed key n p = closing (fixed key p then number n)

pub key_closed_line : (key : List ℕ) (n : ℕ) (p : without_newline key ≡ true) → (key_closed key n p).line ≡ key ++ decimal n
unfolding key_closed
key_closed_line key n p = refl

pub refusal_closed : (r : ℕ) → ClosedBytes (refusal_line r)
unfolding refusal_line without_newline every
refusal_closed r = key_closed refuse_key r refl

pub output_closed : (k : ℕ) (o : Output) → ClosedBytes (output_line k o)
unfolding output_line without_newline every
output_closed k (Ok (At l)) = closing (fixed at_key refl then number k then fixed (comma ∷ []) refl then number l)
output_closed k (Ok (End a own full)) =
    closing
    (fixed end_key refl then number k then fixed (comma ∷ []) refl then word a then fixed (comma ∷ []) refl then number own then field full)
output_closed k (Err r) = refusal_closed (refusal_number r)
