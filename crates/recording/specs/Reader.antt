-- The reader, one line at a time: where it stands, what a line moves it to, and what it answers at the end. It is what code is held to; that
-- it gives the verdict is shown in ReaderVerdict. Assumes nothing.
use Rattle.std.specs.Prelude.{ℕ, suc, ◌+◌, List, [], ◌∷◌, eqb, drop, if◌then◌else◌}
use Rattle.spec.specs.Machine.{Machine, machine_of, zero_config, state_of}
use Rattle.spec.specs.Entries.{Opened}
use Rattle.spec.specs.Schedule.{Event, event}
use Rattle.session.specs.declared.Header.{Header}
use Rattle.session.specs.declared.HeaderLine.TheVariants.{Tasks}
use Rattle.session.specs.declared.HeaderStep.{HeaderStep}
use Rattle.session.specs.declared.HeaderStep.TheVariants.{Next, Complete, Absent, Missing}
use Rattle.session.specs.Grammar.{InputLine}
use Rattle.session.specs.Header.{empty_header, optional, header_step}
use Rattle.session.specs.Print.{output_line}
use Rattle.session.specs.Transcript.{task_in, session_opening}
use Rattle.recording.specs.declared.ReaderPhase.{ReaderPhase}
use Rattle.recording.specs.declared.ReaderPhase.TheVariants.{Due, Event as EventDue, Printed, Listed, Decided}
use Rattle.recording.specs.declared.Verdict.{Verdict}
use Rattle.recording.specs.declared.Verdict.TheVariants.{Same, Refusal}
use Rattle.recording.specs.Recording.{RecordedLine, listing}
use Rattle.recording.specs.Verdict.{Compared, as_printed, fails, compare_line, past_listing, Turn, runs, lists, gives_10, turn}

-- where it stands, what the header says so far, the machine, all zeros before the opening, and the number of the next line
pub record Reader : Type 0 where
  pub phase : ReaderPhase
  pub header : Header
  pub machine : Machine
  pub number : ℕ

abbrev pub reader : ReaderPhase → Header → Machine → ℕ → Reader
reader phase h y n = record { phase = phase; header = h; machine = y; number = n }

-- before the opening
unfoldable pub no_machine : Machine
no_machine = machine_of (state_of zero_config 0 0) [] []

unfoldable pub new_reader : Reader
new_reader = reader (Due Tasks) empty_header no_machine 1

-- ---- a line

-- a line is taken: what is awaited next, and the machine that it leaves
unfoldable pub moved : ReaderPhase → Machine → Reader → Reader
moved phase y r = reader phase r.header y (suc r.number)

unfoldable pub decided : Verdict → Reader → Reader
decided v r = reader (Decided v) r.header r.machine r.number

-- a line that is compared, and what is awaited after it
unfoldable pub after_comparing : Compared → ReaderPhase → Reader → Reader
after_comparing as_printed phase r = moved phase r.machine r
after_comparing (fails v) phase r = decided v r

-- where the listing's line k is due, and these are its lines from there on
unfoldable pub compare_listed : ℕ → List RecordedLine → Reader → InputLine → Reader
compare_listed k [] r l = decided (past_listing r.number l) r
compare_listed k (p ∷ ps) r l = after_comparing (compare_line r.number p.written l) (Listed (k + 1)) r

unfoldable pub read_listed : ℕ → Reader → InputLine → Reader
read_listed k r l = compare_listed k (drop k (listing r.machine)) r l

-- "runs the events afresh"
unfoldable pub run_event : Event → Reader → Reader
run_event e r =
    let d = event r.machine e in
    moved (Printed (task_in e) d.out) d.machine r

unfoldable pub read_turn : Turn → Reader → InputLine → Reader
read_turn (runs e) r l = run_event e r
read_turn lists r l = read_listed 0 r l
read_turn gives_10 r l = decided (Refusal 10) r

-- an opening, and what is done next where it is accepted
unfoldable pub read_opened : Opened → Header → ℕ → (Reader → Reader) → Reader
read_opened o h n next =
    let r = reader EventDue h o.machine n in
    if eqb o.refusal 0 then next r else decided (Refusal o.refusal) r

-- what a line says where a header line is due; where that line is left out, it is an event's turn once the machine is opened
unfoldable pub read_header_line : HeaderStep → Reader → InputLine → Reader
read_header_line (Next due h) r l = reader (Due due) h r.machine (suc r.number)
read_header_line (Complete h) r l = read_opened (session_opening h) h r.number (λ s. moved EventDue s.machine s)
read_header_line (Absent h) r l = read_opened (session_opening h) h r.number (λ s. read_turn (turn l) s l)
read_header_line Missing r l = decided (Refusal 10) r

unfoldable pub read_phase : ReaderPhase → Reader → InputLine → Reader
read_phase (Due due) r l = read_header_line (header_step due r.header l) r l
read_phase EventDue r l = read_turn (turn l) r l
read_phase (Printed k o) r l = after_comparing (compare_line r.number (output_line k o) l) EventDue r
read_phase (Listed k) r l = read_listed k r l
read_phase (Decided v) r l = r

unfoldable pub read_line : Reader → InputLine → Reader
read_line r l = read_phase r.phase r l

-- ---- the end of the lines

-- "12, a line missing where the pattern needs one": these lines of the listing are still to come
unfoldable pub listing_end : List RecordedLine → Verdict
listing_end [] = Same
listing_end (p ∷ ps) = Refusal 12

-- the opening's refusal, or else 12
unfoldable pub opened_end : Opened → Verdict
opened_end o = if eqb o.refusal 0 then Refusal 12 else Refusal o.refusal

unfoldable pub read_phase_end : ReaderPhase → Reader → Verdict
read_phase_end (Due due) r = if optional due then opened_end (session_opening r.header) else Refusal 12
read_phase_end EventDue r = Refusal 12
read_phase_end (Printed k o) r = Refusal 12
read_phase_end (Listed k) r = listing_end (drop k (listing r.machine))
read_phase_end (Decided v) r = v

unfoldable pub read_end : Reader → Verdict
read_end r = read_phase_end r.phase r

-- the lines, one after the other, and their end
unfoldable pub read_lines : Reader → List InputLine → Verdict
read_lines r [] = read_end r
read_lines r (l ∷ ls) = read_lines (read_line r l) ls
