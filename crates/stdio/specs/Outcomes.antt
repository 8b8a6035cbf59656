-- What a program's run comes to, and its exit status. What is read and written no contract can say: `written` below stands for whether a write
-- succeeded, and the rest follows from it. Assumes nothing.
use Rattle.std.specs.Prelude.{ℕ, zero, suc, ◌+◌, ◌-◌, ◌*◌, ◌≡◌, refl, List, [], ◌∷◌, map, Bool, true, false, not, ◌&&◌, eqb, ltb, ℤ, pos, length, get_or, take, drop, if◌then◌else◌}
use Rattle.session.specs.Ascii.{codes, ascii}
use Rattle.session.specs.Keys.{newline}
use Rattle.session.specs.Grammar.{starts_with}
use Rattle.session.specs.Print.{key_line, refusal_line, listing_lines, decimal, decimal_digits}
use Rattle.partial_line.specs.PartialLines.{partial, empty_line}
use Rattle.stdio.specs.declared.input.Given.TheVariants.{TooLong, Settled, Ended, WriteFailed}
use Rattle.stdio.specs.declared.input.Input.{Input}
use Rattle.stdio.specs.declared.output.Outcome.{Outcome}
use Rattle.stdio.specs.declared.output.Outcome.TheVariants.{Yes, No, Refused, Failed}
use Rattle.stdio.specs.declared.output.Passed.{Passed}
use Rattle.stdio.specs.Inputs.{given_number, goes_on, failed, cut_off, leaves_out, begun_line, stopped_at}

-- ---- the exit status: the same four for all programs

unfoldable pub status_number : Outcome → ℕ
status_number Yes = 0
status_number No = 1
status_number Refused = 2
status_number Failed = 3

-- the number of some outcome
pub record IsStatus (status : ℤ) : Type 0 where
  pub outcome : Outcome
  pub gives : status ≡ pos (status_number outcome)

unfoldable pub refused_unless_failed : Outcome → Outcome
refused_unless_failed Yes = Refused
refused_unless_failed No = Refused
refused_unless_failed Refused = Refused
refused_unless_failed Failed = Failed

-- an answer from which a line was left out counts as refused
unfoldable pub outcome_with : Bool → Outcome → Outcome
outcome_with left_out o = if left_out then refused_unless_failed o else o

-- ---- what the last line of an answer says

-- `refuse=`, `line=`, `none`, `office`
abbrev pub refusal_key : List ℕ
refusal_key = 114 ∷ 101 ∷ 102 ∷ 117 ∷ 115 ∷ 101 ∷ 61 ∷ []

abbrev pub differs_key : List ℕ
differs_key = 108 ∷ 105 ∷ 110 ∷ 101 ∷ 61 ∷ []

abbrev pub none_word : List ℕ
none_word = 110 ∷ 111 ∷ 110 ∷ 101 ∷ []

abbrev pub office_word : List ℕ
office_word = 111 ∷ 102 ∷ 102 ∷ 105 ∷ 99 ∷ 101 ∷ []

pub spelled : refusal_key ∷ differs_key ∷ none_word ∷ office_word ∷ [] ≡ ascii "refuse=" ∷ ascii "line=" ∷ ascii "none" ∷ ascii "office" ∷ []
unfolding codes ascii
spelled = refl

unfoldable pub said : List ℕ → Outcome
said line =
    if starts_with refusal_key line then Refused
    else if starts_with differs_key line then No
    else if starts_with none_word line then No else if starts_with office_word line then No else Yes

-- where the line begins in which byte i stands: behind the last byte 10 before it
unfoldable pub line_start : List ℕ → ℕ → ℕ
line_start text zero = 0
line_start text (suc k) = let before = line_start text k in if eqb (get_or text k 0) newline then suc k else before

abbrev pub last_line_start : List ℕ → ℕ
last_line_start text = line_start text (length text - 1)

abbrev pub last_line : List ℕ → List ℕ
last_line text = take (length text - last_line_start text) (drop (last_line_start text) text)

-- the number behind `refuse=`, of one digit or two
abbrev pub digit : List ℕ → ℕ → ℕ
digit line at = get_or line at 0 - 48

unfoldable pub refusal_number : List ℕ → ℕ
refusal_number line = if ltb (get_or line 8 0) 48 then digit line 7 else digit line 7 * 10 + digit line 8

-- ---- what is printed between two reads

-- nothing is at hand, and the next call for a line will read
unfoldable pub will_read : Input → Bool
will_read p = goes_on p.given && (p.reads && not (ltb p.at p.end))

abbrev pub write_failed : Input → Input
write_failed p = stopped_at (begun_line p) p.number p.reads p.at p.end WriteFailed

pub record Passes (p : Input) (due : ℕ) (r : Passed) : Type 0 where
  pub written : Bool
  pub input : r.input ≡ (if will_read p && not written then write_failed p else p)
  pub left : r.due ≡ (if will_read p then 0 else due)

-- ---- the end of a run

-- nothing is written after a read or a write that failed
unfoldable pub outcome_of : Input → Bool → List ℕ → Outcome
outcome_of p written text = if failed p.given then Failed else if written then said (last_line text) else Failed

pub record Ends (p : Input) (text : List ℕ) (o : Outcome) : Type 0 where
  pub written : Bool
  pub outcome : o ≡ outcome_of p written text

-- the exit status of such a run
pub record Exits (p : Input) (text : List ℕ) (status : ℤ) : Type 0 where
  pub outcome : Outcome
  pub ends : Ends p text outcome
  pub gives : status ≡ pos (status_number outcome)

-- ---- rows

pub refusals_say : (r : ℕ) → said (refusal_line r) ≡ Refused
unfolding said refusal_line key_line starts_with
refusals_say r = refl

pub listings_say : (size : ℕ) (ts : List ℕ) → said (listing_lines size ts) ≡ Yes
unfolding said listing_lines key_line starts_with
listings_say size ts = refl

-- after a line that is too long, one that fixed the answer, the end in the middle of a line and at the end of one
pub left_out_rows :
    map (λ g. leaves_out (stopped_at empty_line 1 true 0 0 g)) (TooLong ∷ Settled ∷ Ended ∷ []) ≡ true ∷ true ∷ false ∷ []
unfolding leaves_out cut_off given_number empty_line
left_out_rows = refl

pub unclosed_left_out : (bytes : List ℕ) → outcome_with (leaves_out (stopped_at (partial bytes 1) 1 true 0 0 Ended)) Yes ≡ Refused
unfolding leaves_out cut_off given_number outcome_with refused_unless_failed
unclosed_left_out bytes = refl

pub refusals_read_back :
    refusal_number (refusal_line 1) ∷ refusal_number (refusal_line 9) ∷ refusal_number (refusal_line 10) ∷ refusal_number (refusal_line 16) ∷ []
    ≡ 1 ∷ 9 ∷ 10 ∷ 16 ∷ []
unfolding refusal_number refusal_line key_line decimal decimal_digits
refusals_read_back = refl
