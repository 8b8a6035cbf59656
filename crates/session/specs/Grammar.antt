-- The grammar of a session's input: "lines of at most 40 bytes, each closed by byte 10, numbers decimal to 4,294,967,295 without
-- leading zeros", five header lines and five forms of event line, all on lists of bytes. Assumes nothing.
use Rattle.std.specs.Prelude.{ℕ, suc, ◌+◌, ◌-◌, ◌*◌, List, [], ◌∷◌, ◌++◌, Bool, true, false, not, ◌&&◌, leb, eqb, length, take, drop, if◌then◌else◌, Option, Some, None}
use Rattle.spec.specs.declared.Call.{Call}
use Rattle.spec.specs.declared.Call.TheVariants.{Insert, Remove, Contains, Grow, Shrink}
use Rattle.session.specs.declared.EventLine.{EventLine}
use Rattle.session.specs.declared.EventLine.TheVariants.{Start, Step}
use Rattle.session.specs.Keys.{newline, comma, start_key, step_key, insert_key, remove_key, contains_key, grow_word, shrink_word}

-- ---- byte strings

-- s starts with the bytes of key
unfoldable pub starts_with : List ℕ → List ℕ → Bool
starts_with [] s = true
starts_with (k ∷ ks) [] = false
starts_with (k ∷ ks) (x ∷ xs) = eqb x k && starts_with ks xs

-- s is the bytes of word
unfoldable pub equals : List ℕ → List ℕ → Bool
equals word s = eqb (length s) (length word) && starts_with word s

-- how many bytes stand before the first comma, all of them if there is none
unfoldable pub comma_position : List ℕ → ℕ
comma_position [] = 0
comma_position (x ∷ xs) = if eqb x comma then 0 else suc (comma_position xs)

-- ---- "numbers decimal to 4,294,967,295 without leading zeros"

abbrev pub greatest_number : ℕ
greatest_number = 4294967295

-- the number that n and the digits after it make
unfoldable pub parse_digits : ℕ → List ℕ → Option ℕ
parse_digits n [] = Some n
parse_digits n (x ∷ xs) =
    let rest = parse_digits (n * 10 + (x - 48)) xs in
    if not (leb 48 x) then None
    else if not (leb x 57) then None
    else if not (leb (n * 10 + (x - 48)) greatest_number) then None else rest

-- at least one digit; the first is 0 only in the number 0
unfoldable pub parse_number : List ℕ → Option ℕ
parse_number [] = None
parse_number (x ∷ xs) =
    if not (eqb x 48) then parse_digits 0 (x ∷ xs) else if eqb (length xs) 0 then Some 0 else None

-- a key and the number after it
unfoldable pub parse_keyed_number : List ℕ → List ℕ → Option ℕ
parse_keyed_number key s = if starts_with key s then parse_number (drop (length key) s) else None

-- ---- "any of `start=task,insert,tag` (also remove, contains), `start=task,grow` (also shrink), `step=task`"

-- the start of a call that has a tag
unfoldable pub tagged_start : ℕ → Call → Option ℕ → Option EventLine
tagged_start k call (Some t) = Some (Start k call t)
tagged_start k call None = None

-- what stands after `start=task,`
unfoldable pub parse_call : ℕ → List ℕ → Option EventLine
parse_call k s =
    if equals grow_word s then Some (Start k Grow 0)
    else if equals shrink_word s then Some (Start k Shrink 0)
    else if starts_with insert_key s then tagged_start k Insert (parse_number (drop 7 s))
    else if starts_with remove_key s then tagged_start k Remove (parse_number (drop 7 s))
    else if starts_with contains_key s then tagged_start k Contains (parse_number (drop 9 s))
    else None

unfoldable pub call_of_task : Option ℕ → List ℕ → Option EventLine
call_of_task (Some k) s = parse_call k s
call_of_task None s = None

-- what stands after `start=`: the task's number up to the comma, and the call
unfoldable pub parse_start : List ℕ → Option EventLine
parse_start s = call_of_task (parse_number (take (comma_position s) s)) (drop (comma_position s + 1) s)

unfoldable pub step_event : Option ℕ → Option EventLine
step_event (Some k) = Some (Step k)
step_event None = None

-- the bytes of an event's line
unfoldable pub parse_event : List ℕ → Option EventLine
parse_event s =
    if starts_with step_key s then step_event (parse_number (drop 5 s))
    else if starts_with start_key s then parse_start (drop 6 s)
    else None

-- ---- an input's lines

-- a line's bytes without the closing byte, and whether byte 10 closed it
pub record InputLine : Type 0 where
  pub bytes : List ℕ
  pub closed : Bool

abbrev pub closed_line : List ℕ → InputLine
closed_line bytes = record { bytes = bytes; closed = true }

abbrev pub open_line : List ℕ → InputLine
open_line bytes = record { bytes = bytes; closed = false }

-- the lines of an input of which the first one's bytes so far are `begun`; a last line that is not closed has at least one byte
unfoldable pub split_lines : List ℕ → List ℕ → List InputLine
split_lines begun [] = if eqb (length begun) 0 then [] else (open_line begun ∷ [])
split_lines begun (x ∷ xs) =
    let next = split_lines [] xs in
    let same = split_lines (begun ++ (x ∷ [])) xs in
    if eqb x newline then (closed_line begun ∷ next) else same

unfoldable pub input_lines : List ℕ → List InputLine
input_lines input = split_lines [] input

-- "10, a line outside the grammar, too long or not closed": a line that is neither too long nor not closed
unfoldable pub admissible : InputLine → Bool
admissible l = l.closed && leb (length l.bytes) 40

-- a header line's number
unfoldable pub parse_header_line : List ℕ → InputLine → Option ℕ
parse_header_line key l = if admissible l then parse_keyed_number key l.bytes else None

-- a header line that is these bytes and has no number: it counts as 0
unfoldable pub parse_fixed_line : List ℕ → InputLine → Option ℕ
parse_fixed_line word l = if admissible l && equals word l.bytes then Some 0 else None

-- what an event line asks for
unfoldable pub parse_event_line : InputLine → Option EventLine
parse_event_line l = if admissible l then parse_event l.bytes else None
