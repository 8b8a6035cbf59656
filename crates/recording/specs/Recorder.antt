-- The recorder, one line at a time: where it stands, what a line has it write, and what it writes at the end. The header's lines are kept until
-- the opening is accepted. Where nothing is recorded it writes what the session prints, a refusal's line: `recorder_output` has the whole. It is
-- what code is held to; that it writes that is shown in RecorderRecords. Assumes nothing.
use Rattle.std.specs.Prelude.{ℕ, List, [], ◌∷◌, ◌++◌, eqb, take, replicate, if◌then◌else◌, Option, Some, None}
use Rattle.spec.specs.Machine.{Machine}
use Rattle.spec.specs.Entries.{Opened, list}
use Rattle.spec.specs.Schedule.{Event, starts, steps, event}
use Rattle.session.specs.declared.EventLine.{EventLine}
use Rattle.session.specs.declared.EventLine.TheVariants.{Start, Step}
use Rattle.session.specs.declared.Header.{Header}
use Rattle.session.specs.declared.HeaderLine.TheVariants.{Tasks}
use Rattle.session.specs.declared.HeaderStep.{HeaderStep}
use Rattle.session.specs.declared.HeaderStep.TheVariants.{Next, Complete, Absent, Missing}
use Rattle.session.specs.Grammar.{InputLine, parse_event_line}
use Rattle.session.specs.Header.{empty_header, optional, header_step}
use Rattle.session.specs.Print.{refusal_line}
use Rattle.session.specs.Transcript.{final_listing, session_opening, transcript}
use Rattle.recording.specs.declared.RecorderPhase.{RecorderPhase}
use Rattle.recording.specs.declared.RecorderPhase.TheVariants.{Header as HeaderDue, Events, Ended}
use Rattle.recording.specs.Recording.{close, bytes_of, Recorded, recorded, not_recorded, recorded_lines}
use Rattle.recording.specs.Verdict.{printed_for}
use Rattle.recording.specs.Reader.{no_machine}

-- where it stands, what the header says so far, the machine, all zeros before the opening, and the header's lines so far
pub record Recorder : Type 0 where
  pub phase : RecorderPhase
  pub header : Header
  pub machine : Machine
  pub kept : List ℕ

abbrev pub recorder : RecorderPhase → Header → Machine → List ℕ → Recorder
recorder phase h y kept = record { phase = phase; header = h; machine = y; kept = kept }

unfoldable pub new_recorder : Recorder
new_recorder = recorder (HeaderDue Tasks) empty_header no_machine []

-- four lines of the grammar, closed; the last header line is written when it comes
abbrev pub longest_header : ℕ
longest_header = 164

-- where it stands then, and the bytes that it writes
pub record RecorderEffect : Type 0 where
  pub next : Recorder
  pub writes : List ℕ

abbrev pub recorder_effect : Recorder → List ℕ → RecorderEffect
recorder_effect next writes = record { next = next; writes = writes }

-- ---- a line

-- these bytes are the last
unfoldable pub record_last : Recorder → List ℕ → RecorderEffect
record_last r writes = recorder_effect (recorder Ended r.header r.machine r.kept) writes

-- the final listing
unfoldable pub write_listing : Recorder → RecorderEffect
write_listing r = record_last r (final_listing r.machine (list r.machine (replicate 64 0)).says)

-- "for each event its input line followed by its output line"
unfoldable pub write_pair : Event → Recorder → InputLine → RecorderEffect
write_pair e r l =
    recorder_effect (recorder Events r.header (event r.machine e).machine r.kept) (close l.bytes ++ printed_for r.machine e)

-- "an input line that gives 10 is left out, and the listing follows at once"
unfoldable pub record_event : Option EventLine → Recorder → InputLine → RecorderEffect
record_event (Some (Start k call tag)) r l = write_pair (starts k call tag) r l
record_event (Some (Step k)) r l = write_pair (steps k) r l
record_event None r l = write_listing r

-- what was kept, and then what is written
unfoldable pub after_kept : Recorder → RecorderEffect → RecorderEffect
after_kept r d = recorder_effect d.next (r.kept ++ d.writes)

-- "Only yards whose opening is accepted are recorded": an opening, after these header lines, and what is done next where it is accepted;
-- else its refusal, as the session prints it
unfoldable pub record_opened : Opened → Header → List ℕ → (Recorder → RecorderEffect) → RecorderEffect
record_opened o h kept next =
    let r = recorder Events h o.machine kept in
    if eqb o.refusal 0 then after_kept r (next r) else record_last r (refusal_line o.refusal)

-- what a line says where a header line is due
unfoldable pub record_header_line : HeaderStep → Recorder → InputLine → RecorderEffect
record_header_line (Next due h) r l =
    recorder_effect (recorder (HeaderDue due) h r.machine (take longest_header (r.kept ++ close l.bytes))) []
record_header_line (Complete h) r l = record_opened (session_opening h) h r.kept (λ s. recorder_effect s (close l.bytes))
record_header_line (Absent h) r l = record_opened (session_opening h) h r.kept (λ s. record_event (parse_event_line l) s l)
record_header_line Missing r l = record_last r (refusal_line 10)

unfoldable pub record_phase : RecorderPhase → Recorder → InputLine → RecorderEffect
record_phase (HeaderDue due) r l = record_header_line (header_step due r.header l) r l
record_phase Events r l = record_event (parse_event_line l) r l
record_phase Ended r l = recorder_effect r []

unfoldable pub record_line : Recorder → InputLine → RecorderEffect
record_line r l = record_phase r.phase r l

-- ---- the end of the lines

unfoldable pub record_phase_end : RecorderPhase → Recorder → RecorderEffect
record_phase_end (HeaderDue due) r =
    if optional due then record_opened (session_opening r.header) r.header r.kept write_listing
    else record_last r (refusal_line 10)
record_phase_end Events r = write_listing r
record_phase_end Ended r = recorder_effect r []

unfoldable pub record_end : Recorder → RecorderEffect
record_end r = record_phase_end r.phase r

-- the lines, one after the other, and their end
unfoldable pub record_lines : Recorder → List InputLine → List ℕ
record_lines r [] = (record_end r).writes
record_lines r (l ∷ ls) =
    let d = record_line r l in
    d.writes ++ record_lines d.next ls

-- ---- what it writes for an input: the recording, and where there is none what the session prints

unfoldable pub recorded_or : Recorded → List ℕ → List ℕ
recorded_or (recorded rs) refusal = bytes_of rs
recorded_or not_recorded refusal = refusal

unfoldable pub recorder_output : List ℕ → List ℕ
recorder_output input = recorded_or (recorded_lines input) (transcript input)
