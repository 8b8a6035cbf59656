-- What rests on statements of specs/Theorems.antt that a must-fail edit makes false: theorems moved from there as they stood. Assumes nothing.
use Rattle.std.specs.Prelude.{◌≡◌, refl, true, ℕ, suc, ◌+◌, length}
use Rattle.std.proofs.Common.{sym, ◌∙◌, arith, eq-eqb, length-append}
use Rattle.std.proofs.Math.Path.{ap}
use mathlib.Core.List.{List, [], ◌∷◌, ◌++◌, map, append_assoc}
use Rattle.spec.specs.Lists.{concat_map}
use Rattle.laws.specs.Tests.{tf}
use Rattle.session.specs.Grammar.{InputLine, input_lines}
use Rattle.session.specs.Transcript.{session_opening}
use Rattle.recording.specs.declared.ReaderPhase.TheVariants.{Event as EventDue}
use Rattle.recording.specs.declared.Verdict.TheVariants.{Same, Differs}
use Rattle.recording.specs.Header.{take_header}
use Rattle.recording_laws.specs.HeaderAgain.{Behind}
use Rattle.recording.specs.Recording.{header_role, RecordedLine, recorded_line, close, input_again, bytes_of, Recorded, recorded}
use Rattle.recording.specs.Recording.{recorded_lines, lines_of, recording}
use Rattle.recording.specs.Verdict.{opened_verdict, header_verdict, lines_verdict, verdict}
use Rattle.recording.specs.Reader.{reader, read_lines}
use Rattle.recording_laws.specs.ClosedLines.{without_newline, again, lines_again}
use Rattle.recording_laws.specs.ReaderVerdict.{events_read as events-judged}
use Rattle.recording_laws.specs.ReadToEnd.{only_compared, ReadToEnd, whole_read, other_read}
use Rattle.recording_laws.specs.RecorderRecords.{bytes_append}
use Rattle.recording_laws.specs.RecordingRead.{session_lists, Begins}
use Rattle.recording_laws.proofs.RecordingRead.{events_read, events_begin}
use Rattle.recording_laws.specs.Theorems.{Accepted, Shift, recorded_shift, shift_events, shift_lines, shift_of}

-- ---- the bytes of its header, and others behind them, are judged from the first event on

module _ {input : List ℕ} (s : Shift input) where
  abbrev first_event : ℕ
  first_event = 1 + length s.own

  judged_behind : (tail : List ℕ) → Behind s.rest (input_lines tail)
      → verdict (again header_role s.own ++ tail)
      ≡ read_lines (reader EventDue s.header (session_opening s.header).machine first_event) (input_lines tail)
  unfolding verdict lines_verdict take_header header_verdict opened_verdict
  judged_behind tail b =
      let o = session_opening s.header in
      let ms = input_lines tail in
      ap lines_verdict (lines_again header_role s.again.clean tail)
      ∙ ap (header_verdict 1) (s.again.again ms b)
      ∙ rw (eq-eqb _ _ s.accepted) (sym ((events-judged s.header ms).at_events first_event o.machine))

  shift_read : ReadToEnd (reader EventDue s.header (session_opening s.header).machine first_event) (shift_events s)
  shift_read = events_read s.rest s.again.plain _ (session_lists s.header s.accepted) s.header first_event

  shift_begins : Begins s.rest (shift_events s)
  shift_begins = events_begin s.rest s.again.plain _ (session_lists s.header s.accepted)

  whole_behind : Behind s.rest (input_lines (bytes_of (shift_events s)))
  unfolding bytes_of concat_map
  whole_behind = rw shift_begins.joined (shift_begins.behind (bytes_of shift_begins.later))

  -- the lines before one that is only compared, and whatever comes then: its first line is another
  part_behind : (before : List RecordedLine) (r : RecordedLine) (after : List RecordedLine) (tail : List ℕ) → shift_events s ≡ before ++ r ∷ after
      → only_compared r.role ≡ true → Behind s.rest (input_lines (bytes_of before ++ tail))
  unfolding bytes_of concat_map
  part_behind [] r after tail e c =
      let f = shift_begins.joined in
      let g : shift_begins.first ≡ r = cc in
      absurd (tf (ap (λ (x : RecordedLine). only_compared x.role) g ∙ c) shift_begins.not_compared)
  part_behind (b ∷ before) r after tail e c =
      let f = shift_begins.joined in
      let g : shift_begins.first ≡ b = cc in
      rw (append_assoc b.written (bytes_of before) tail)
      (rw g at (shift_begins.behind (bytes_of before ++ tail)))

-- ---- a whole recording

-- "A recording written by the terminal always gives "same""
pub recorded_same : (input : List ℕ) → Accepted input → verdict (recording input) ≡ Same
unfolding recording lines_of
recorded_same input a =
    let s = shift_of input a in
    let rs = shift_events s in
    ap (λ (x : Recorded). verdict (bytes_of (lines_of x))) (shift_lines input s)
    ∙ ap verdict (bytes_append (map (input_again header_role) s.own) rs)
    ∙ judged_behind s (bytes_of rs) (whole_behind s)
    ∙ whole_read (shift_read s)

-- ---- a line r of it, with those before and those after

-- it is no header line where it is only compared
events_part : (own : List InputLine) (evs before : List RecordedLine) (r : RecordedLine) (after : List RecordedLine)
    → map (input_again header_role) own ++ evs ≡ before ++ r ∷ after → only_compared r.role ≡ true
    → (between : List RecordedLine) × (before ≡ map (input_again header_role) own ++ between) × (evs ≡ between ++ r ∷ after)
unfolding only_compared input_again
events_part [] evs before r after e c = (before, refl, e)
events_part (l ∷ own) evs [] r after e c =
    let f : input_again header_role l ≡ r = cc in
    absurd (tf (ap (λ (x : RecordedLine). only_compared x.role) f ∙ c) refl)
events_part (l ∷ own) evs (b ∷ before) r after e c =
    let f : input_again header_role l ≡ b = cc in
    let g : map (input_again header_role) own ++ evs ≡ before ++ r ∷ after = cc in
    let k = events_part own evs before r after g c in
    let q : b ∷ before ≡ input_again header_role l ∷ (map (input_again header_role) own ++ k.0) = cc k.1 in
    (k.0, q, k.2)

header_length : (own : List InputLine) → length (map (input_again header_role) own) ≡ length own
header_length [] = refl
header_length (l ∷ own) = ap suc (header_length own)

module _ (input : List ℕ) (before : List RecordedLine) (r : RecordedLine) (after : List RecordedLine)
    (e : recorded_lines input ≡ recorded (before ++ r ∷ after)) (c : only_compared r.role ≡ true)
    (line : List ℕ) (p : without_newline line ≡ true) (d : ¬ (close line ≡ r.written)) where
  -- whatever comes after a line that is altered
  pub first_other_line : (rest : List ℕ) → verdict (bytes_of before ++ (close line ++ rest)) ≡ Differs (length before + 1)
  first_other_line rest =
      let x = recorded_shift input (before ++ r ∷ after) e in
      let s = x.0 in
      let hs = map (input_again header_role) s.own in
      let k = events_part s.own (shift_events s) before r after x.1 c in
      let tail = bytes_of k.0 ++ (close line ++ rest) in
      let parted : bytes_of before ≡ again header_role s.own ++ bytes_of k.0 = ap bytes_of k.1 ∙ bytes_append hs k.0 in
      let counted : length before ≡ length s.own + length k.0 =
      ap length k.1 ∙ length-append hs k.0 ∙ ap (λ (m : ℕ). m + length k.0) (header_length s.own)
      in
      ap (λ (b : List ℕ). verdict (b ++ (close line ++ rest))) parted
      ∙ ap verdict (append_assoc (again header_role s.own) (bytes_of k.0) (close line ++ rest))
      ∙ judged_behind s tail (part_behind s k.0 r after (close line ++ rest) k.2 c)
      ∙ other_read r after c line rest p d k.0 (rw k.2 at (shift_read s))
      ∙ ap Differs (omega arith)

  -- "one with a single line altered but still closed, either an event's output line or a listing line after `size=`, gives that line"
  pub altered_line_found : verdict (bytes_of (before ++ recorded_line r.role (close line) ∷ after)) ≡ Differs (length before + 1)
  unfolding bytes_of concat_map
  altered_line_found = ap verdict (bytes_append before (recorded_line r.role (close line) ∷ after)) ∙ first_other_line (bytes_of after)
