-- The greatest lengths of the lines that a session prints, for an event and for the final listing of at most 64 tags. They tell a
-- caller how much room to lend. Assumes nothing.
use Rattle.std.specs.Prelude.{List, [], ◌∷◌, ◌++◌, Bool, true, false, ℕ, zero, suc, ◌+◌, ◌*◌, ◌/◌, ◌%◌, ◌≤◌, ltb, length, if◌then◌else◌, Option, Some, None, Ok, Err}
use Rattle.std.proofs.Common.{arith, length-append}
use Rattle.spec.specs.declared.Answer.{Answer}
use Rattle.spec.specs.declared.Answer.TheVariants.{Yes, No, Full, Done, Lost, Limit}
use Rattle.spec.specs.Outputs.{Output}
use Rattle.spec.specs.declared.Progress.TheVariants.{At, End}
use Rattle.spec.specs.Numbers.{refusal_number}
use Rattle.session.specs.Keys.{tag_key, size_key, tags_key}
use Rattle.session.specs.Print.{decimal_digits, decimal, key_line, answer_word, occupancy_field, refusal_line, output_line, tag_lines, listing_lines}

-- how many bytes an input's line prints at most: `end=`, three numbers of at most 20 digits, a word, three commas and byte 10
abbrev pub longest_line : ℕ
longest_line = 73

-- how many bytes the end of an input prints at most: the listing of 64 tags
abbrev pub longest_end : ℕ
longest_end = 1652

digits_length : (p n : ℕ) → length (decimal_digits p n) ≤ p
unfolding decimal_digits
digits_length zero n = omega arith
digits_length (suc p) n = go (digits_length p (n / 10)) (ltb n 10)
  where
    front : List ℕ
    front = decimal_digits p (n / 10)

    go : length front ≤ p → (b : Bool) → length (if b then ((48 + n) ∷ []) else (front ++ ((48 + n % 10) ∷ []))) ≤ suc p
    go ih true = omega arith
    go ih false = simp length-append (omega arith)

pub decimal_length : (n : ℕ) → length (decimal n) ≤ 20
unfolding decimal
decimal_length n = digits_length 20 n

key_length : (key : List ℕ) (n : ℕ) → length (key_line key n) ≤ length key + 21
unfolding key_line
key_length key n = simp length-append (omega (arith, decimal_length n))

pub refusal_length : (r : ℕ) → length (refusal_line r) ≤ 28
unfolding refusal_line
refusal_length r = key_length _ r

pub word_length : (a : Answer) → length (answer_word a) ≤ 5
unfolding answer_word
word_length Yes = omega arith
word_length No = omega arith
word_length Full = omega arith
word_length Done = omega arith
word_length Lost = omega arith
word_length Limit = omega arith

field_length : (full : Option ℕ) → length (occupancy_field full) ≤ 21
unfolding occupancy_field
field_length None = omega arith
field_length (Some n) = simp length-append (omega (arith, decimal_length n))

pub output_length : (k : ℕ) (o : Output) → length (output_line k o) ≤ longest_line
unfolding output_line
output_length k (Ok (At l)) = simp length-append (omega (arith, decimal_length k, decimal_length l))
output_length k (Ok (End a own full)) =
    simp length-append (omega (arith, decimal_length k, word_length a, decimal_length own, field_length full))
output_length k (Err r) = omega (arith, refusal_length (refusal_number r))

tags_length : (ts : List ℕ) → length (tag_lines ts) ≤ 25 * length ts
unfolding tag_lines
tags_length [] = omega arith
tags_length (t ∷ ts) = simp length-append (omega (arith, key_length tag_key t, tags_length ts))

pub listing_length : (size : ℕ) (ts : List ℕ) → length ts ≤ 64 → length (listing_lines size ts) ≤ longest_end
unfolding listing_lines
listing_length size ts h =
    simp length-append (omega (arith, key_length size_key size, key_length tags_key (length ts), tags_length ts))
