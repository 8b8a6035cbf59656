-- Any reader of lines over an input that comes in pieces, of which at most 41 bytes of a line are kept: a whole input gives what its lines give. A
-- reader stands at some S; `answer s ls` is what it comes to if the lines `ls` follow, and `take_line` takes the bytes of a closed one. Assumes nothing.
use Rattle.std.specs.Prelude.{ℕ, ◌+◌, ◌<◌, ◌≤◌, ◌≡◌, List, [], ◌∷◌, ◌++◌, Bool, true, false, eqb, length, if◌then◌else◌}
use Rattle.session.specs.Grammar.{InputLine, closed_line, open_line, input_lines, admissible}
use Rattle.partial_line.specs.PartialLines.{line_bytes}
use Rattle.stdio.specs.declared.input.Given.TheVariants.{TooLong, Ended}
use Rattle.stdio.specs.declared.input.Input.{Input}
use Rattle.stdio.specs.Inputs.{given_number, is_line, goes_on, fixed, failed, cut_off, most_calls}
use Rattle.stdio.specs.Inputs.{pending, Fits, lines_left, bytes_left}

-- ---- what is asked of a reader

-- it takes closed lines of at most 40 bytes
abbrev pub TakesLines : {S A : Type 0} → (S → List InputLine → A) → (S → List ℕ → S) → Type 0
TakesLines {S} answer take_line = (s : S) (l : List ℕ) (ls : List InputLine) → length l ≤ 40 → answer s (closed_line l ∷ ls) ≡ answer (take_line s l) ls

-- a line that is too long or not closed fixes the answer, and any such line the same
abbrev pub OutsideFixes : {S A : Type 0} → (S → List InputLine → A) → Type 0
OutsideFixes {S} answer =
    (s : S) (x y : InputLine) (ls : List InputLine) → admissible x ≡ false → admissible y ≡ false → answer s (x ∷ ls) ≡ answer s (y ∷ [])

-- where it stands after a call for a line
unfoldable pub after_call : {S : Type 0} → (S → List ℕ → S) → S → Input → S
after_call take_line s q = if is_line q.given then take_line s (line_bytes q.line) else s

-- the lines that are still to come, which do not matter once the answer is fixed. A line that is too long is among them
unfoldable pub to_come : Input → List ℕ → List ℕ → List InputLine
to_come p room more = if eqb (given_number p.given) 3 then [] else lines_left p room more

-- of so many bytes every one can be asked for
abbrev pub Countable : List ℕ → Type 0
Countable input = length input + 2 ≤ most_calls

-- from s₀, where `input` is the room of standard input or, if nothing is read, all of the input, the reader has come to s at p: `read` is what was given,
-- and what follows, `more`, gives from here what the whole gives from there
pub record Follows {S A : Type 0} (answer : S → List InputLine → A) (reads : Bool) (input : List ℕ) (s₀ : S) (p : Input) (room : List ℕ) (s : S)
    : Type 0 where
  pub read : List ℕ
  pub in_memory : reads ≡ false → (read ≡ input) × (room ≡ input)
  pub source : p.reads ≡ reads
  pub fits : Fits p room
  pub same : (more : List ℕ) → answer s₀ (input_lines (read ++ more)) ≡ answer s (to_come p room more)
  pub ended : p.given ≡ Ended → pending p room ≡ []
  pub over : goes_on p.given ≡ false → p.left ≡ 0
  pub on : goes_on p.given ≡ true → 0 < p.left
  pub long : p.given ≡ TooLong → length (line_bytes p.line) ≡ 41
  pub never_fails : reads ≡ false → Countable input → (failed p.given ≡ false) × (goes_on p.given ≡ true → bytes_left p + 1 < p.left)

-- what a reader comes to, at p: `read` is what was given. If the input has ended this is all of it; if the answer is fixed, whatever follows
pub record Answers {A : Type 0} (f : List ℕ → A) (reads : Bool) (input : List ℕ) (p : Input) (a : A) : Type 0 where
  pub read : List ℕ
  pub in_memory : reads ≡ false → read ≡ input
  pub over : goes_on p.given ≡ false
  pub never_fails : reads ≡ false → Countable input → failed p.given ≡ false
  pub whole : p.given ≡ Ended → f read ≡ a
  pub whatever : fixed p.given ≡ true → (more : List ℕ) → f (read ++ more) ≡ a

-- the lines after the last that was taken: one that is too long or not closed, if there is one
unfoldable pub last_lines : Input → List InputLine
last_lines p = if cut_off p then (open_line (line_bytes p.line) ∷ []) else []
