-- What is promised of recordings, whatever the session's input:
--
--   recorded_if_accepted   an input has a recording exactly if its opening is accepted
--   recorded_same          that recording gives "same"
--   altered_line_found     with one output line, or listing line after `size=`, altered but still closed, it gives that line
--   first_other_line       the same, whatever comes after that line
--
-- OnlyRecordings has the converse of `recorded_same`: nothing else gives "same". Conditions has when a reader gives 10, 12, the opening's refusal
-- and a line's number, for any bytes. ReaderVerdict has that a reader, one line at a time, gives all this; RecorderRecords has
-- that a recorder, one line at a time, writes the recording.
-- They hold since a recording's header is taken again as it was (HeaderAgain) and the rest is read to its end (RecordingRead). Assumes nothing.
use Rattle.std.specs.Prelude.{◌≡◌, refl, ◌↔◌, Bool, true, false, ℕ, eqb, if◌then◌else◌}
use Rattle.std.proofs.Common.{sym, ◌∙◌, arith, eq-eqb, eqb-true}
use Rattle.std.proofs.Math.Path.{ap}
use mathlib.Core.List.{List, ◌++◌, map}
use Rattle.session.specs.declared.Header.{Header}
use Rattle.session.specs.declared.HeaderLine.TheVariants.{Tasks}
use Rattle.session.specs.Grammar.{InputLine, input_lines}
use Rattle.session.specs.Header.{empty_header, complete, incomplete, read_header}
use Rattle.session.specs.Transcript.{session_opening}
use Rattle.recording.specs.Header.{HeaderTaken, taken, take_header}
use Rattle.recording_laws.specs.HeaderAgain.{HeaderAgain, TakenAs, is_taken, is_none, header_again}
use Rattle.recording_laws.specs.HeaderLaws.{session_header, as_session}
use Rattle.recording.specs.Recording.{header_role, RecordedLine, input_again, recorded_events, recorded}
use Rattle.recording.specs.Recording.{not_recorded, opened_recording, header_recording, recorded_lines}

-- the opening of this session's input is accepted
pub record Accepted (input : List ℕ) : Type 0 where
  pub header : Header
  pub rest : List InputLine
  pub read : read_header (input_lines input) ≡ complete header rest
  pub accepted : (session_opening header).refusal ≡ 0

-- ---- an accepted opening, with the header's own lines

pub record Shift (input : List ℕ) : Type 0 where
  pub own : List InputLine
  pub header : Header
  pub rest : List InputLine
  pub lines : take_header (input_lines input) ≡ taken own header rest
  pub again : HeaderAgain (input_lines input) Tasks empty_header own header rest
  pub accepted : (session_opening header).refusal ≡ 0

-- a shift's lines after the header
abbrev pub shift_events : {input : List ℕ} → Shift input → List RecordedLine
shift_events s = recorded_events (session_opening s.header).machine s.rest

pub shift_of : (input : List ℕ) → Accepted input → Shift input
unfolding session_header
shift_of input a = go (take_header (input_lines input)) refl (header_again input)
  where
    go : (t : HeaderTaken) → take_header (input_lines input) ≡ t → TakenAs (input_lines input) Tasks empty_header t → Shift input
    go t e (is_taken {own = own} {h' = h} {rest = rest} k) =
        let r : complete h rest ≡ complete a.header a.rest = sym (as_session (input_lines input) ∙ ap session_header e) ∙ a.read in
        let f : h ≡ a.header = cc in
        record { own = own; header = h; rest = rest; lines = e; again = k; accepted = ap (λ (x : Header). (session_opening x).refusal) f ∙ a.accepted }
    go t e is_none =
        let r : incomplete ≡ complete a.header a.rest = sym (as_session (input_lines input) ∙ ap session_header e) ∙ a.read in
        let z : ◌≡◌ {A = ℕ} 0 1 = cc in absurd (omega arith)

-- what is recorded of it
pub shift_lines : (input : List ℕ) (s : Shift input) → recorded_lines input ≡ recorded (map (input_again header_role) s.own ++ shift_events s)
unfolding recorded_lines header_recording opened_recording
shift_lines input s = rw (s.lines, eq-eqb _ _ s.accepted)

-- what is recorded is a shift
pub recorded_shift : (input : List ℕ) (rs : List RecordedLine) → recorded_lines input ≡ recorded rs
    → (s : Shift input) × (map (input_again header_role) s.own ++ shift_events s ≡ rs)
unfolding recorded_lines header_recording opened_recording
recorded_shift input rs e = go (take_header (input_lines input)) refl (header_again input)
  where
    go : (t : HeaderTaken) → take_header (input_lines input) ≡ t → TakenAs (input_lines input) Tasks empty_header t
        → (s : Shift input) × (map (input_again header_role) s.own ++ shift_events s ≡ rs)
    go t f (is_taken {own = own} {h' = h} {rest = rest} k) = found (eqb (session_opening h).refusal 0) refl (sym (ap header_recording f) ∙ e)
      where
        ls : List RecordedLine
        ls = map (input_again header_role) own ++ recorded_events (session_opening h).machine rest

        found : (b : Bool) → eqb (session_opening h).refusal 0 ≡ b → (if b then recorded ls else not_recorded) ≡ recorded rs
            → (s : Shift input) × (map (input_again header_role) s.own ++ shift_events s ≡ rs)
        found true p q =
            let same : ls ≡ rs = cc in
            (record { own = own; header = h; rest = rest; lines = f; again = k; accepted = eqb-true _ _ p }, same)
        found false p q = let z : ◌≡◌ {A = ℕ} 0 1 = cc in absurd (omega arith)
    go t f is_none = let q = sym (ap header_recording f) ∙ e in let z : ◌≡◌ {A = ℕ} 0 1 = cc in absurd (omega arith)

-- "Only yards whose opening is accepted are recorded"
pub recorded_if_accepted : (input : List ℕ) → ((rs : List RecordedLine) × (recorded_lines input ≡ recorded rs)) ↔ Accepted input
unfolding session_header
recorded_if_accepted input = (
  λ x.
      let s = (recorded_shift input x.0 x.1).0 in
      record {
        header = s.header;
        rest = s.rest;
        read = as_session (input_lines input) ∙ ap session_header s.lines;
        accepted = s.accepted;
      },
  λ a. (_, shift_lines input (shift_of input a)),
)
