-- The lines that a session prints, as bytes: "`at=task,next line`, or `end=task,answer,own steps`, or `refuse=number`; at the end
-- of input `size=` the head's size, `tags=` their count, and a `tag=` each"; how full an ended insert's or remove's bucket is, "as a
-- fourth field on those end lines only". Assumes nothing.
use Rattle.std.specs.Prelude.{ℕ, zero, suc, ◌+◌, ◌/◌, ◌%◌, List, [], ◌∷◌, ◌++◌, ltb, length, if◌then◌else◌, Option, Some, None, Ok, Err}
use Rattle.spec.specs.declared.Answer.{Answer}
use Rattle.spec.specs.declared.Answer.TheVariants.{Yes, No, Full, Done, Lost, Limit}
use Rattle.spec.specs.Outputs.{Output}
use Rattle.spec.specs.declared.Progress.TheVariants.{At, End}
use Rattle.spec.specs.Numbers.{refusal_number}
use Rattle.session.specs.Keys.{newline, comma, at_key, end_key, refuse_key, size_key, tags_key, tag_key, yes_word, no_word, full_word, done_word}
use Rattle.session.specs.Keys.{lost_word, limit_word}

-- n in decimal, where it has at most so many digits
unfoldable pub decimal_digits : ℕ → ℕ → List ℕ
decimal_digits zero n = []
decimal_digits (suc p) n =
    let front = decimal_digits p (n / 10) in
    if ltb n 10 then ((48 + n) ∷ []) else (front ++ ((48 + n % 10) ∷ []))

-- a number of at most 64 bits has at most 20 digits
unfoldable pub decimal : ℕ → List ℕ
decimal n = decimal_digits 20 n

-- a key and a number, closed
unfoldable pub key_line : List ℕ → ℕ → List ℕ
key_line key n = key ++ decimal n ++ (newline ∷ [])

-- the word of each answer
unfoldable pub answer_word : Answer → List ℕ
answer_word Yes = yes_word
answer_word No = no_word
answer_word Full = full_word
answer_word Done = done_word
answer_word Lost = lost_word
answer_word Limit = limit_word

-- the fourth field of an end line, where the number of tags is given
unfoldable pub occupancy_field : Option ℕ → List ℕ
occupancy_field None = []
occupancy_field (Some n) = (comma ∷ []) ++ decimal n

unfoldable pub refusal_line : ℕ → List ℕ
refusal_line r = key_line refuse_key r

-- the line for what task k's start or step answers
unfoldable pub output_line : ℕ → Output → List ℕ
output_line k (Ok (At l)) = at_key ++ decimal k ++ (comma ∷ []) ++ decimal l ++ (newline ∷ [])
output_line k (Ok (End a own full)) =
    end_key ++ decimal k ++ (comma ∷ []) ++ answer_word a ++ (comma ∷ []) ++ decimal own ++ occupancy_field full ++ (newline ∷ [])
output_line k (Err r) = refusal_line (refusal_number r)

unfoldable pub tag_lines : List ℕ → List ℕ
tag_lines [] = []
tag_lines (t ∷ ts) = key_line tag_key t ++ tag_lines ts

-- the final listing of a head's size and the tags
unfoldable pub listing_lines : ℕ → List ℕ → List ℕ
listing_lines size ts = key_line size_key size ++ key_line tags_key (length ts) ++ tag_lines ts
