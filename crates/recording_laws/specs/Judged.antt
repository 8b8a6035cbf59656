-- What decides, after the header: the first line that gives 10 or differs, or the end of the lines: `answered`; and back, what comes after
-- that line changes nothing: `ten_decides`, `difference_decides`. "Of a difference, a 10 and a 12 the earliest line decides." By induction over
-- the lines, with the table of LineTable. Assumes nothing.
use Rattle.std.specs.Prelude.{◌≡◌, refl, List, [], ◌∷◌, ◌++◌, true, false, suc, ◌+◌, length}
use Rattle.std.proofs.Common.{ap, ◌∙◌, arith}
use Rattle.spec.specs.Machine.{Machine}
use Rattle.laws.specs.Tests.{tf}
use Rattle.session.specs.Grammar.{InputLine}
use Rattle.recording.specs.declared.ReaderPhase.{ReaderPhase}
use Rattle.recording.specs.declared.ReaderPhase.TheVariants.{Due, Event as EventDue, Printed, Listed, Decided}
use Rattle.recording.specs.declared.Verdict.{Verdict}
use Rattle.recording.specs.declared.Verdict.TheVariants.{Same, Differs, Refusal}
use Rattle.recording.specs.Reader.{Reader, reader, read_phase, read_line, read_end, read_lines}
use Rattle.recording_laws.specs.ReaderVerdict.{stays_decided}
use Rattle.recording_laws.specs.LineTable.{judging, Gives10, NotPrinted, Lacks, Whole, LineView, goes_on, is_10, differs, phase_view, phase_10}
use Rattle.recording_laws.specs.LineTable.{phase_differs, EndView, is_12, is_same, end_view, end_12, end_same}

-- where the reader stands after these lines
unfoldable pub reader_after : Reader → List InputLine → Reader
reader_after r [] = r
reader_after r (l ∷ ls) = reader_after (read_line r l) ls

-- the table's conditions, where reader r stands
abbrev pub Ten : Reader → InputLine → Type 0
Ten r l = Gives10 r.phase l

abbrev pub Other : Reader → InputLine → Type 0
Other r l = NotPrinted r.phase r.machine l

-- a line of ls at which P holds, where reader r stands after the lines before it
pub record LineAt (P : Reader → InputLine → Type 0) (r : Reader) (ls : List InputLine) : Type 0 where
  pub first : List InputLine
  pub line : InputLine
  pub later : List InputLine
  pub placed : ls ≡ first ++ line ∷ later
  pub there : P (reader_after r first) line

pub data Answered (r : Reader) (ls : List InputLine) (v : Verdict) : Type 0 where
  ten : LineAt Ten r ls → v ≡ Refusal 10 → Answered r ls v
  difference : (x : LineAt Other r ls) → v ≡ Differs (r.number + length x.first) → Answered r ls v
  twelve : Lacks (reader_after r ls).phase (reader_after r ls).machine → v ≡ Refusal 12 → Answered r ls v
  same : Whole (reader_after r ls).phase (reader_after r ls).machine → v ≡ Same → Answered r ls v

-- what is decided stays
stays : (r : Reader) (v : Verdict) → r.phase ≡ Decided v → (ls : List InputLine) → read_lines r ls ≡ v
stays r v e ls =
    ap (λ (p : ReaderPhase). read_lines (reader p r.header r.machine r.number) ls) e ∙ stays_decided v r.header r.machine r.number ls

-- ---- from the answer to its reason

answered_later : (r : Reader) (l : InputLine) (ls : List InputLine) (v : Verdict) → (read_line r l).number ≡ suc r.number → Answered (read_line r l) ls v
    → Answered r (l ∷ ls) v
unfolding reader_after
answered_later r l ls v n (ten x e) =
    ten (record { first = l ∷ x.first; line = x.line; later = x.later; placed = ap (λ (k : List InputLine). l ∷ k) x.placed; there = x.there }) e
answered_later r l ls v n (difference x e) =
    difference
    (record { first = l ∷ x.first; line = x.line; later = x.later; placed = ap (λ (k : List InputLine). l ∷ k) x.placed; there = x.there })
    (e ∙ ap Differs (omega arith))
answered_later r l ls v n (twelve x e) = twelve x e
answered_later r l ls v n (same x e) = same x e

pub answered : (ls : List InputLine) (r : Reader) → judging r.phase ≡ true → Answered r ls (read_lines r ls)
unfolding read_lines reader_after read_line read_end
answered [] r j = ended (end_view r.phase r j)
  where
    ended : EndView r.phase r.machine (read_end r) → Answered r [] (read_end r)
    ended (is_12 x e) = twelve x e
    ended (is_same x e) = same x e
answered (l ∷ ls) r j = go (phase_view r l r.phase j) (answered ls (read_line r l))
  where
    go : LineView r.phase r l (read_line r l)
        → (judging (read_line r l).phase ≡ true → Answered (read_line r l) ls (read_lines (read_line r l) ls))
        → Answered r (l ∷ ls) (read_lines (read_line r l) ls)
    go (goes_on i n) ih = answered_later r l ls (read_lines (read_line r l) ls) n (ih i)
    go (is_10 g e) ih = ten (record { first = []; line = l; later = ls; placed = refl; there = g }) (stays (read_line r l) (Refusal 10) e ls)
    go (differs g e) ih =
        difference (record { first = []; line = l; later = ls; placed = refl; there = g })
        (stays (read_line r l) (Differs r.number) e ls ∙ ap Differs (omega arith))

-- ---- and back

lines_on : (first : List InputLine) (r : Reader) (l : InputLine) (later : List InputLine)
    → read_lines r (first ++ l ∷ later) ≡ read_lines (read_line (reader_after r first) l) later
unfolding read_lines reader_after
lines_on [] r l later = refl
lines_on (m ∷ first) r l later = lines_on first (read_line r m) l later

lines_end : (ls : List InputLine) (r : Reader) → read_lines r ls ≡ read_end (reader_after r ls)
unfolding read_lines reader_after
lines_end [] r = refl
lines_end (l ∷ ls) r = lines_end ls (read_line r l)

pub ten_decides : (r : Reader) (ls : List InputLine) → LineAt Ten r ls → read_lines r ls ≡ Refusal 10
unfolding read_line
ten_decides r ls x =
    let s = reader_after r x.first in
    ap (read_lines r) x.placed
    ∙ lines_on x.first r x.line x.later
    ∙ stays (read_line s x.line) (Refusal 10) (phase_10 s x.line s.phase x.there) x.later

pub lack_decides : (r : Reader) (ls : List InputLine) → Lacks (reader_after r ls).phase (reader_after r ls).machine → read_lines r ls ≡ Refusal 12
unfolding read_end
lack_decides r ls x = lines_end ls r ∙ end_12 (reader_after r ls).phase (reader_after r ls) x

pub whole_decides : (r : Reader) (ls : List InputLine) → Whole (reader_after r ls).phase (reader_after r ls).machine → read_lines r ls ≡ Same
unfolding read_end
whole_decides r ls x = lines_end ls r ∙ end_same (reader_after r ls).phase (reader_after r ls) x

-- ---- a reader that is undecided after these lines has counted them

decided_after : (ls : List InputLine) (r : Reader) (v : Verdict) → r.phase ≡ Decided v → judging (reader_after r ls).phase ≡ false
unfolding reader_after read_line read_phase judging
decided_after [] r v e = rw e
decided_after (l ∷ ls) r v e =
    ap (λ (p : ReaderPhase). judging (reader_after (read_phase p r l) ls).phase) e ∙ decided_after ls r v e

counted : (first : List InputLine) (r : Reader) → judging r.phase ≡ true → judging (reader_after r first).phase ≡ true
    → (reader_after r first).number ≡ r.number + length first
unfolding reader_after read_line
counted [] r j k = omega arith
counted (l ∷ first) r j k = go (phase_view r l r.phase j) (counted first (read_line r l))
  where
    go : LineView r.phase r l (read_line r l)
        → (judging (read_line r l).phase ≡ true → judging (reader_after (read_line r l) first).phase ≡ true
        → (reader_after (read_line r l) first).number ≡ (read_line r l).number + length first)
        → (reader_after (read_line r l) first).number ≡ r.number + suc (length first)
    go (goes_on i n) ih = omega (arith, ih i k, n)
    go (is_10 g e) ih = absurd (tf k (decided_after first (read_line r l) (Refusal 10) e))
    go (differs g e) ih = absurd (tf k (decided_after first (read_line r l) (Differs r.number) e))

other_judging : (p : ReaderPhase) (y : Machine) (l : InputLine) → NotPrinted p y l → judging p ≡ true
unfolding NotPrinted judging
other_judging (Due due) y l g = absurd g
other_judging EventDue y l g = refl
other_judging (Printed k o) y l g = refl
other_judging (Listed k) y l g = refl
other_judging (Decided v) y l g = absurd g

pub difference_decides : (r : Reader) (ls : List InputLine) → judging r.phase ≡ true → (x : LineAt Other r ls)
    → read_lines r ls ≡ Differs (r.number + length x.first)
unfolding read_line
difference_decides r ls j x =
    let s = reader_after r x.first in
    let d = Differs s.number in
    ap (read_lines r) x.placed
    ∙ lines_on x.first r x.line x.later
    ∙ stays (read_line s x.line) d (phase_differs s x.line s.phase x.there) x.later
    ∙ ap Differs (counted x.first r j (other_judging s.phase s.machine x.line x.there))
