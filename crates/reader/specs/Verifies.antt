-- What the program is held to: what is printed for an input, `verify_output`, where the loop stands, the answer. Assumes nothing.
use Rattle.std.specs.Prelude.{◌≡◌, refl, List, [], ◌∷◌, ◌++◌, Bool, true, false, not, ℕ, ◌+◌, ◌<◌, ◌≤◌, length}
use Rattle.session.specs.Ascii.{codes, ascii}
use Rattle.session.specs.Grammar.{InputLine, closed_line, open_line, input_lines, starts_with}
use Rattle.session.specs.Print.{key_line, refusal_line}
use Rattle.recording.specs.declared.Verdict.{Verdict}
use Rattle.recording.specs.declared.Verdict.TheVariants.{Same, Differs, Refusal}
use Rattle.recording.specs.Verdict.{verdict}
use Rattle.recording.specs.Reader as defined
use Rattle.recording.specs.Reader.{new_reader, read_lines}
use Rattle.reader_state.specs.declared.Reader.{Reader}
use Rattle.reader_state.specs.Standing.{most_lines, LineRead, line_read, read_line, read_end}
use Rattle.stdio.specs.declared.input.Given.TheVariants.{TooLong}
use Rattle.stdio.specs.declared.input.Input.{Input}
use Rattle.stdio.specs.declared.output.Outcome.TheVariants.{Yes, No, Refused}
use Rattle.stdio.specs.Inputs.{cut_off}
use Rattle.stdio.specs.Readers.{Countable, Follows, Answers}
use Rattle.stdio.specs.Outcomes.{differs_key, said}
use Rattle.stdio.specs.Runs.{Prints, exact}
use Rattle.reader.specs.declared.program.Answered.{Answered}
use Rattle.reader.specs.declared.program.LongLine.{LongLine}
use Rattle.reader.specs.AsDefined.{AsDefined}
use Rattle.reader.specs.KnownMemory.{KnownIn}

-- ---- the text: `same`, `line=N` or `refuse=N`, closed

-- `same` and byte 10
abbrev pub same_text : List ℕ
same_text = 115 ∷ 97 ∷ 109 ∷ 101 ∷ 10 ∷ []

pub spelled : same_text ≡ ascii "same\n"
unfolding codes ascii
spelled = refl

unfoldable pub verdict_text : Verdict → List ℕ
verdict_text Same = same_text
verdict_text (Differs n) = key_line differs_key n
verdict_text (Refusal r) = refusal_line r

-- "gives "same", or the number, from 1, of the first line that is not what the machine prints", or a refusal
pub texts_say : (n r : ℕ) → said (verdict_text Same) ∷ said (verdict_text (Differs n)) ∷ said (verdict_text (Refusal r)) ∷ [] ≡ Yes ∷ No ∷ Refused ∷ []
unfolding said verdict_text key_line refusal_line starts_with
texts_say n r = refl

-- what is printed for an input: its verdict
unfoldable pub verify_output : List ℕ → List ℕ
verify_output input = verdict_text (verdict input)

-- exactly that for every input in memory
pub verify_exact : (input : List ℕ) (p : Input) (text : List ℕ) → Countable input → Prints verify_output false input p text → verify_output input ≡ text
verify_exact input p text few x = exact verify_output input p text few x

-- ---- the loop

-- a closed line of these bytes
unfoldable pub take_line : LineRead → List ℕ → LineRead
take_line d l = read_line d.reader d.nodes d.buckets (closed_line l)

-- what recording's reader prints, where it stands and these lines follow
unfoldable pub lines_text : defined.Reader → List InputLine → List ℕ
lines_text e ls = verdict_text (read_lines e ls)

-- recording's reader stands at `place`, and the reader over the lent pools as it. A line takes a call, so that no number of a line is too great
pub record Reading (reads : Bool) (input : List ℕ) (p : Input) (room : List ℕ) (r : Reader) (ns bs : List ℕ) : Type 0 where
  pub place : defined.Reader
  pub follows : Follows lines_text reads input new_reader p room place
  pub stands : AsDefined (line_read r ns bs) place
  pub numbered : place.number + p.left ≤ most_lines + 1
  pub long_numbered : p.given ≡ TooLong → place.number < most_lines
  pub known : KnownIn true r ns bs

-- ---- the answer

-- of what recording's reader comes to
abbrev pub Verifies : Bool → List ℕ → Answered → Type 0
Verifies reads input a = Answers (λ xs. lines_text new_reader (input_lines xs)) reads input a.input (verdict_text a.verdict)

-- at the end of what is read, where no line is too long
pub record EndedAs (r : Reader) (ns bs : List ℕ) (p : Input) (a : Answered) : Type 0 where
  pub input : a.input ≡ p
  pub verdict : a.verdict ≡ read_end (not (cut_off p)) r ns bs
  pub room : length p.line.bytes ≡ 41

-- what a line gives that has these first bytes and is too long, if it is not closed and if it is
pub record LongGives (e : defined.Reader) (l : List ℕ) (g : LongLine) : Type 0 where
  pub unclosed_gives : (w : List ℕ) → read_lines e (open_line w ∷ []) ≡ g.unclosed
  pub closed_gives : (rest : List ℕ) (ls : List InputLine) → read_lines e (closed_line (l ++ rest) ∷ ls) ≡ g.closed
