-- Two lanes' notes as text, and what the program `yardnotes` prints for a whole input: lines `note=LANE,insert,TAG,ANSWER` (also remove and
-- contains) and `note=LANE,grow,ANSWER` (also shrink), LANE 1 or 2, in any mixture of the lanes; lines and numbers are as in a session.
-- It prints the order as such lines, or `none`, or `refuse=10`, else `refuse=13`. Assumes nothing.
use Rattle.std.specs.Prelude.{ℕ, ◌+◌, ◌≡◌, refl, List, [], ◌∷◌, ◌++◌, Bool, true, false, ◌&&◌, eqb, length, take, drop, if◌then◌else◌, Option, Some, None}
use Rattle.spec.specs.declared.Answer.TheVariants.{Yes, No, Full, Done, Lost, Limit}
use Rattle.spec.specs.declared.Call.{Call}
use Rattle.spec.specs.declared.Call.TheVariants.{Insert, Remove, Contains, Grow, Shrink}
use Rattle.session.specs.declared.EventLine.{EventLine}
use Rattle.session.specs.declared.EventLine.TheVariants.{Start, Step}
use Rattle.session.specs.Ascii.{codes, ascii}
use Rattle.session.specs.Keys.{newline, comma, insert_key, remove_key, contains_key, grow_word, shrink_word, yes_word, no_word, full_word, done_word}
use Rattle.session.specs.Keys.{lost_word, limit_word}
use Rattle.session.specs.Grammar.{starts_with, equals, parse_start, InputLine, input_lines, admissible}
use Rattle.session.specs.Print.{decimal, answer_word, refusal_line}
use Rattle.notes.specs.declared.Note.{Note}
use Rattle.spec.specs.declared.Answer.{Answer}
use Rattle.notes.specs.declared.NoteLine.{NoteLine}
use Rattle.notes.specs.declared.NoteLine.TheVariants.{First, Second}
use Rattle.notes.specs.Orders.{note, Lane, first, second}
use Rattle.notes.specs.Merge.{order, none, Outcome, searched, refused, merge}

-- `note=`
abbrev pub note_key : List ℕ
note_key = 110 ∷ 111 ∷ 116 ∷ 101 ∷ 61 ∷ []

-- `none` and byte 10
abbrev pub none_line : List ℕ
none_line = 110 ∷ 111 ∷ 110 ∷ 101 ∷ newline ∷ []

pub spelled : note_key ∷ none_line ∷ [] ≡ ascii "note=" ∷ ascii "none\n" ∷ []
unfolding codes ascii
spelled = refl

-- ---- a line that is read

-- an answer's word, of all six answers
unfoldable pub parse_answer : List ℕ → Option Answer
parse_answer s =
    if equals yes_word s then Some Yes
    else if equals no_word s then Some No
    else if equals full_word s then Some Full
    else if equals done_word s then Some Done
    else if equals lost_word s then Some Lost
    else if equals limit_word s then Some Limit
    else None

-- where the last comma of some bytes stands, the first of which stands at place n; `best` if they have none
unfoldable pub last_comma_from : ℕ → ℕ → List ℕ → ℕ
last_comma_from n best [] = best
last_comma_from n best (x ∷ xs) = last_comma_from (n + 1) (if eqb x comma then n else best) xs

-- how many bytes stand before the last comma, all of them if there is none
unfoldable pub last_comma : List ℕ → ℕ
last_comma s = last_comma_from 0 (length s) s

-- a start with an answer: the task's number is the lane's, 1 or 2
unfoldable pub noted : Option EventLine → Option Answer → Option NoteLine
noted (Some (Start k call tag)) (Some a) = if eqb k 1 then Some (First (note call tag a)) else if eqb k 2 then Some (Second (note call tag a)) else None
noted (Some (Start k call tag)) None = None
noted (Some (Step k)) a = None
noted None a = None

-- what stands after `note=`: up to the last comma the form of what stands after a session's `start=`, then the answer
unfoldable pub parse_noted : List ℕ → Option NoteLine
parse_noted s = noted (parse_start (take (last_comma s) s)) (parse_answer (drop (last_comma s + 1) s))

unfoldable pub parse_note : List ℕ → Option NoteLine
parse_note s = if starts_with note_key s then parse_noted (drop 5 s) else None

-- as in a session, "lines of at most 40 bytes, each closed by byte 10"
unfoldable pub parse_note_line : InputLine → Option NoteLine
parse_note_line l = if admissible l then parse_note l.bytes else None

-- ---- a line that is printed

unfoldable pub call_field : Call → ℕ → List ℕ
call_field Insert tag = insert_key ++ decimal tag ++ (comma ∷ [])
call_field Remove tag = remove_key ++ decimal tag ++ (comma ∷ [])
call_field Contains tag = contains_key ++ decimal tag ++ (comma ∷ [])
call_field Grow tag = grow_word ++ (comma ∷ [])
call_field Shrink tag = shrink_word ++ (comma ∷ [])

unfoldable pub note_line : ℕ → Note → List ℕ
note_line k x = note_key ++ decimal k ++ (comma ∷ []) ++ call_field x.call x.tag ++ answer_word x.answer ++ (newline ∷ [])

-- the calls of both lists in an order that keeps both
unfoldable pub order_lines : List Lane → List Note → List Note → List ℕ
order_lines [] xs ys = []
order_lines (first ∷ L) [] ys = []
order_lines (first ∷ L) (x ∷ xs) ys = note_line 1 x ++ order_lines L xs ys
order_lines (second ∷ L) xs [] = []
order_lines (second ∷ L) xs (y ∷ ys) = note_line 2 y ++ order_lines L xs ys

-- ---- the whole

unfoldable pub outcome_lines : Outcome → List Note → List Note → List ℕ
outcome_lines (searched (order L)) xs ys = order_lines L xs ys
outcome_lines (searched none) xs ys = none_line
outcome_lines (refused r) xs ys = refusal_line r

unfoldable pub merge_lines : List Note → List Note → List ℕ
merge_lines xs ys = outcome_lines (merge xs ys) xs ys

-- each lane's notes, in their order
unfoldable pub add_first : Option NoteLine → List Note → List Note
add_first (Some (First x)) xs = x ∷ xs
add_first (Some (Second x)) xs = xs
add_first None xs = xs

unfoldable pub first_notes : List InputLine → List Note
first_notes [] = []
first_notes (l ∷ ls) = add_first (parse_note_line l) (first_notes ls)

unfoldable pub add_second : Option NoteLine → List Note → List Note
add_second (Some (First x)) ys = ys
add_second (Some (Second x)) ys = x ∷ ys
add_second None ys = ys

unfoldable pub second_notes : List InputLine → List Note
second_notes [] = []
second_notes (l ∷ ls) = add_second (parse_note_line l) (second_notes ls)

unfoldable pub is_note : Option NoteLine → Bool
is_note (Some (First x)) = true
is_note (Some (Second x)) = true
is_note None = false

unfoldable pub all_notes : List InputLine → Bool
all_notes [] = true
all_notes (l ∷ ls) = is_note (parse_note_line l) && all_notes ls

-- a line outside the grammar, anywhere in the input, goes before 13
unfoldable pub notes_output : List InputLine → List ℕ
notes_output ls = if all_notes ls then merge_lines (first_notes ls) (second_notes ls) else refusal_line 10

unfoldable pub notes_transcript : List ℕ → List ℕ
notes_transcript input = notes_output (input_lines input)
