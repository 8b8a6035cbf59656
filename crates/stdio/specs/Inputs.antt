-- An input by lines: what is given of it call by call, against the paper's lines. What is read from standard input no contract can say: `read` stands for
-- it, and the rest follows from it. An input in memory has all of its bytes at hand. Assumes nothing.
use Rattle.std.specs.Prelude.{ℕ, ◌+◌, ◌-◌, ◌<◌, ◌≤◌, ◌≡◌, List, [], ◌∷◌, ◌++◌, Bool, true, false, not, ◌&&◌, ◌||◌, eqb, ltb, length, take, drop, if◌then◌else◌}
use Rattle.session.specs.Grammar.{InputLine, closed_line, split_lines}
use Rattle.partial_line.specs.declared.PartialLine.{PartialLine}
use Rattle.partial_line.specs.PartialLines.{partial, empty_line, line_bytes}
use Rattle.stdio.specs.declared.input.Given.{Given}
use Rattle.stdio.specs.declared.input.Given.TheVariants.{Part, Line, TooLong, Settled, Ended, ReadFailed, WriteFailed}
use Rattle.stdio.specs.declared.input.Input.{Input}

-- ---- one call

abbrev pub most_calls : ℕ
most_calls = 18446744073709551615

-- standard input, of which nothing is read yet, or n bytes that are in memory
unfoldable pub begin : Bool → ℕ → Input
begin reads n =
    record { at = 0; end = if reads then 0 else n; reads = reads; number = 1; left = most_calls; line = empty_line; given = Part }

-- more may be asked for after 0 and 1; a line fixed the answer in 2 and 3; a read or a write failed in 5 and 6
unfoldable pub given_number : Given → ℕ
given_number Part = 0
given_number Line = 1
given_number TooLong = 2
given_number Settled = 3
given_number Ended = 4
given_number ReadFailed = 5
given_number WriteFailed = 6

abbrev pub is_line : Given → Bool
is_line given = eqb (given_number given) 1

abbrev pub is_long : Given → Bool
is_long given = eqb (given_number given) 2

abbrev pub at_end : Given → Bool
at_end given = eqb (given_number given) 4

-- more may be asked for
abbrev pub goes_on : Given → Bool
goes_on given = ltb (given_number given) 2

-- the answer is fixed: by a line that is too long, or by what the program found
abbrev pub fixed : Given → Bool
fixed given = not (goes_on given) && ltb (given_number given) 4

-- a read or a write failed
abbrev pub failed : Given → Bool
failed given = ltb 4 (given_number given)

-- the input ended in the middle of a line
abbrev pub unclosed_end : Input → Bool
unclosed_end p = at_end p.given && not (eqb p.line.len 0)

-- the last line is outside the grammar: too long, or not closed
unfoldable pub cut_off : Input → Bool
cut_off p = is_long p.given || unclosed_end p

-- the last line is left out of an answer that goes by the lines before it: it fixed the answer, or is outside the grammar
unfoldable pub leaves_out : Input → Bool
leaves_out p = eqb (given_number p.given) 3 || cut_off p

-- the line that is begun: none after one that was given whole
unfoldable pub begun_line : Input → PartialLine
begun_line p = if is_line p.given then partial p.line.bytes 0 else p.line

unfoldable pub line_number : Input → ℕ
line_number p = if is_line p.given && ltb p.number most_calls then (p.number + 1) else p.number

-- a line that byte 10 closed, or a part of one; with its 41st byte it is too long
unfoldable pub given_of : Bool → ℕ → Given
given_of closed len = if closed then Line else if ltb len 41 then Part else TooLong

unfoldable pub left_of : Given → ℕ → ℕ
left_of given n = if goes_on given then n else 0

abbrev pub with_given : Input → Given → Input
with_given p given =
    record { at = p.at; end = p.end; reads = p.reads; number = p.number; left = 0; line = p.line; given = given }

-- after a line that fixes the answer, or does not
unfoldable pub settled_if : Bool → Input → Input
settled_if b p = if b then with_given p Settled else p

-- ---- what is to come

-- the bytes of the room from one place to another
abbrev pub at_hand : ℕ → ℕ → List ℕ → List ℕ
at_hand at end room = take (end - at) (drop at room)

-- what is read and not handed on yet
abbrev pub pending : Input → List ℕ → List ℕ
pending p room = at_hand p.at p.end room

abbrev pub Fits : Input → List ℕ → Type 0
Fits p room = (p.at ≤ p.end) × (p.end ≤ length room)

-- the lines that are to come, if `more` is what is read from here on
unfoldable pub lines_left : Input → List ℕ → List ℕ → List InputLine
lines_left p room more = split_lines (line_bytes (begun_line p)) (pending p room ++ more)

-- and the line that is given before them
unfoldable pub with_line : Input → List InputLine → List InputLine
with_line p ls = if is_line p.given then (closed_line (line_bytes p.line) ∷ ls) else ls

-- no more is to be asked for
abbrev pub stopped_at : PartialLine → ℕ → Bool → ℕ → ℕ → Given → Input
stopped_at h number reads at end given = record { at = at; end = end; reads = reads; number = number; left = 0; line = h; given = given }

-- bytes at hand, those of the room from `at` to `end`, after the line that is begun
pub record Taken (h : PartialLine) (at end : ℕ) (reads : Bool) (n : ℕ) (room : List ℕ) (q : Input) : Type 0 where
  pub source : q.reads ≡ reads
  pub fits : Fits q room
  pub same : (more : List ℕ) → split_lines (line_bytes h) (at_hand at end room ++ more) ≡ with_line q (lines_left q room more)
  pub short : q.given ≡ Line → length (line_bytes q.line) ≤ 40
  pub long : q.given ≡ TooLong → length (line_bytes q.line) ≡ 41
  pub left : q.left ≡ left_of q.given n
  pub not_ended : q.given ≡ Ended → ⊥
  pub not_settled : q.given ≡ Settled → ⊥
  pub not_failed : failed q.given ≡ false
  pub onward : (at ≤ q.at) × (q.end ≡ end)
  pub uses : goes_on q.given ≡ true → at < end → at < q.at
  pub line_uses : q.given ≡ Line → at < q.at
  pub some_used : at < end → h.len < 41 → at < q.at

-- how many bytes are read and not handed on yet
abbrev pub bytes_left : Input → ℕ
bytes_left p = p.end - p.at

-- one call over an input that is in memory: nothing is read, and it fails only where no call is left
pub record InMemory (p : Input) (room : List ℕ) (q : Input) (room' : List ℕ) (read : List ℕ) : Type 0 where
  pub none_read : read ≡ []
  pub kept : room' ≡ room
  pub fewer_bytes : bytes_left q ≤ bytes_left p
  pub uses_one : goes_on q.given ≡ true → (bytes_left q < bytes_left p) × (q.left ≡ p.left - 1)
  pub long_uses : q.given ≡ TooLong → (begun_line p).len < 41 → bytes_left q < bytes_left p
  pub fails : failed q.given ≡ true → p.left < 2

-- one call: `read` is what was read
pub record Gives (p : Input) (room : List ℕ) (q : Input) (room' : List ℕ) : Type 0 where
  pub read : List ℕ
  pub in_memory : p.reads ≡ false → InMemory p room q room' read
  pub source : q.reads ≡ p.reads
  pub fits : Fits q room'
  pub same : (more : List ℕ) → lines_left p room (read ++ more) ≡ with_line q (lines_left q room' more)
  pub short : q.given ≡ Line → length (line_bytes q.line) ≤ 40
  pub long : q.given ≡ TooLong → length (line_bytes q.line) ≡ 41
  pub ended : q.given ≡ Ended → pending q room' ≡ []
  pub not_settled : q.given ≡ Settled → ⊥
  pub fewer : q.left ≤ p.left - 1
  pub over : goes_on q.given ≡ false → q.left ≡ 0
  pub on : goes_on q.given ≡ true → 0 < q.left
  pub no_calls : p.left < 2 → failed q.given ≡ true
  -- bytes at hand are taken before any are read, and a line takes one at least
  pub onward : p.at < p.end → (p.at ≤ q.at) × (q.end ≡ p.end)
  pub uses : q.given ≡ Line → (0 < q.at) × (p.at < p.end → p.at < q.at)
