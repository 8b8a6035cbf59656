-- Lines that a reader takes one after the other as what it waits for, from the first event on and up to the listing's end: `ReadToEnd`.
-- Read, they give "same"; with one that is only compared altered, its number. RecordingRead has that every recording is so. Assumes nothing.
use Rattle.std.specs.Prelude.{◌≡◌, Bool, true, false, ℕ, suc, ◌+◌, length, drop}
use Rattle.std.proofs.Math.Path.{ap}
use Rattle.std.proofs.Common.{◌∙◌, arith}
use mathlib.Core.List.{List, [], ◌∷◌, ◌++◌, append_assoc}
use Rattle.spec.specs.Lists.{concat_map}
use Rattle.spec.specs.Machine.{Machine}
use Rattle.session.specs.declared.Header.{Header}
use Rattle.session.specs.Grammar.{closed_line, split_lines, input_lines}
use Rattle.recording.specs.declared.ReaderPhase.TheVariants.{Listed}
use Rattle.recording.specs.declared.Verdict.TheVariants.{Same, Differs}
use Rattle.recording.specs.Recording.{Role, header_role, event_role, output_role, size_role, listing_role, RecordedLine, close, bytes_of, listing}
use Rattle.recording.specs.Reader.{Reader, reader, decided, read_line, listing_end, read_phase_end, read_end, read_lines}
use Rattle.recording_laws.specs.ReaderVerdict.{stays_decided}
use Rattle.recording_laws.specs.ClosedLines.{without_newline, first_line}
use Rattle.recording_laws.specs.PrintedLines.{ClosedBytes}

-- "either an event's output line or a listing line after `size=`": the lines that are only compared, whatever stands there
unfoldable pub only_compared : Role → Bool
only_compared header_role = false
only_compared event_role = false
only_compared output_role = true
only_compared size_role = false
only_compared listing_role = true

-- reader s waits for line r, and with it becomes s'
pub record Awaits (s : Reader) (r : RecordedLine) (s' : Reader) : Type 0 where
  pub bytes : ClosedBytes r.written
  pub goes_on : read_line s (closed_line bytes.line) ≡ s'
  pub counted : s'.number ≡ suc s.number
  -- with another line, where it is only compared
  pub other : only_compared r.role ≡ true → (line : List ℕ) → ¬ (close line ≡ r.written)
      → read_line s (closed_line line) ≡ decided (Differs s.number) s

pub data ReadToEnd : Reader → List RecordedLine → Type 0 where
  at_end : {h : Header} {y : Machine} {k n : ℕ} → drop k (listing y) ≡ [] → ReadToEnd (reader (Listed k) h y n) []
  after_line : {s s' : Reader} {r : RecordedLine} {rs : List RecordedLine} → Awaits s r s' → ReadToEnd s' rs → ReadToEnd s (r ∷ rs)

-- ---- the bytes of such lines

-- a line that is waited for is read, and the reader goes on
line_read : {s s' : Reader} {r : RecordedLine} → Awaits s r s' → (rest : List ℕ)
    → read_lines s (input_lines (r.written ++ rest)) ≡ read_lines s' (input_lines rest)
unfolding read_lines
line_read {s} w rest =
    ap (λ (b : List ℕ). read_lines s (input_lines (b ++ rest))) w.bytes.closed
    ∙ ap (read_lines s) (first_line w.bytes.line rest w.bytes.plain)
    ∙ ap (λ (q : Reader). read_lines q (input_lines rest)) w.goes_on

pub whole_read : {s : Reader} {rs : List RecordedLine} → ReadToEnd s rs → read_lines s (input_lines (bytes_of rs)) ≡ Same
unfolding bytes_of concat_map input_lines split_lines read_lines read_end read_phase_end listing_end
whole_read (at_end e) = ap listing_end e
whole_read (after_line {rs = rs} w q) = line_read w (bytes_of rs) ∙ whole_read q

-- another line in the place of line r, where it is only compared, whatever comes then
module _ (r : RecordedLine) (after : List RecordedLine) (c : only_compared r.role ≡ true) (line rest : List ℕ)
    (p : without_newline line ≡ true) (d : ¬ (close line ≡ r.written)) where
  pub other_read : (before : List RecordedLine) {s : Reader} → ReadToEnd s (before ++ r ∷ after)
      → read_lines s (input_lines (bytes_of before ++ (close line ++ rest))) ≡ Differs (s.number + length before)
  unfolding bytes_of concat_map read_lines decided
  other_read [] {s} (after_line w q) =
      ap (read_lines s) (first_line line rest p)
      ∙ ap (λ (z : Reader). read_lines z (input_lines rest)) (w.other c line d)
      ∙ stays_decided (Differs s.number) s.header s.machine s.number (input_lines rest)
      ∙ ap Differs (omega arith)
  other_read (b ∷ before) {s} (after_line w q) =
      ap (λ (x : List ℕ). read_lines s (input_lines x)) (append_assoc b.written (bytes_of before) (close line ++ rest))
      ∙ line_read w (bytes_of before ++ (close line ++ rest))
      ∙ other_read before q
      ∙ ap Differs (omega (arith, w.counted))
