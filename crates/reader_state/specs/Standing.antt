-- What one line does to a reader whose pools are lent whole, and what it answers at the end of its input: the definitions that the code is
-- held to. They are recording's, over the machine in the reader's part of the pools; that they give the paper's verdict is shown in
-- the crate reader, AsDefined. Assumes nothing.
use Rattle.std.specs.Prelude.{ℕ, suc, ◌+◌, min, ◌≡◌, List, ◌++◌, Bool, true, false, eqb, drop, if◌then◌else◌}
use Rattle.spec.specs.declared.State.{State}
use Rattle.spec.specs.Machine.{machine_of, zero_config, state_of}
use Rattle.spec.specs.Entries.{opening}
use Rattle.session.specs.declared.Header.{Header}
use Rattle.session.specs.declared.HeaderLine.TheVariants.{Tasks}
use Rattle.session.specs.declared.HeaderStep.{HeaderStep}
use Rattle.session.specs.declared.HeaderStep.TheVariants.{Next, Complete, Absent, Missing}
use Rattle.session.specs.Grammar.{InputLine}
use Rattle.session.specs.Header.{empty_header, optional, header_step}
use Rattle.session_pools.specs.PoolParts.{node_extent, bucket_extent, node_part, bucket_part}
use Rattle.recording.specs.declared.ReaderPhase.{ReaderPhase}
use Rattle.recording.specs.declared.ReaderPhase.TheVariants.{Due, Event as EventDue, Printed, Listed, Decided}
use Rattle.recording.specs.declared.Verdict.{Verdict}
use Rattle.recording.specs.declared.Verdict.TheVariants.{Differs, Refusal}
use Rattle.recording.specs.Recording.{listing}
use Rattle.recording.specs.Verdict.{turn}
use Rattle.recording.specs.Reader.{reader, read_opened, read_turn, read_phase, listing_end}
use Rattle.recording.specs.Reader as defined
use Rattle.reader_state.specs.declared.Reader.{Reader}

-- ---- numbers

-- the greatest number of a line, and the greatest place of the listing
abbrev pub most_lines : ℕ
most_lines = 18446744073709551615

abbrev pub most_places : ℕ
most_places = 4294967295

unfoldable pub next_number : ℕ → ℕ
next_number n = min (suc n) most_lines

unfoldable pub next_place : ℕ → ℕ
next_place k = min (k + 1) most_places

-- "12, a line missing", and "10 is .. for a line not closed": the input's last line is closed, or it is not
unfoldable pub missing : Bool → ℕ
missing closed = if closed then 12 else 10

-- ---- a reader, and its machine in the lent pools

abbrev pub reader_of : ReaderPhase → Header → State → ℕ → Reader
reader_of phase h m n = record { phase = phase; header = h; state = m; number = n }

-- no line is read yet
unfoldable pub new_reader : Reader
new_reader = reader_of (Due Tasks) empty_header (state_of zero_config 0 0) 1

-- the reader of recording's definitions
unfoldable pub with_part : Reader → List ℕ → List ℕ → defined.Reader
with_part r ns bs = reader r.phase r.header (machine_of r.state (node_part r.header ns) (bucket_part r.header bs)) r.number

-- what a line leaves: the reader, and the words of both pools
pub record LineRead : Type 0 where
  pub reader : Reader
  pub nodes : List ℕ
  pub buckets : List ℕ

abbrev pub line_read : Reader → List ℕ → List ℕ → LineRead
line_read r ns bs = record { reader = r; nodes = ns; buckets = bs }

-- a reader of the definitions, put back: words past its part are kept, and the line's number is at most the greatest
unfoldable pub put_back : defined.Reader → List ℕ → List ℕ → LineRead
put_back d ns bs =
    let y = d.machine in
    line_read (reader_of d.phase d.header y.state (min d.number most_lines))
    (y.nodes ++ drop (node_extent d.header ns) ns)
    (y.buckets ++ drop (bucket_extent d.header bs) bs)

-- ---- a line that is compared

unfoldable pub decided : Verdict → Reader → Reader
decided v r = reader_of (Decided v) r.header r.state r.number

-- as printed, or not
unfoldable pub after_comparing : Bool → ReaderPhase → Reader → Reader
after_comparing same phase r =
    if same then reader_of phase r.header r.state (next_number r.number) else decided (Differs r.number) r

-- ---- a line

unfoldable pub awaits_event : ReaderPhase → Bool
awaits_event (Due due) = false
awaits_event EventDue = true
awaits_event (Printed k o) = false
awaits_event (Listed k) = false
awaits_event (Decided v) = false

-- the opening on line n, and the number of the line after it where it is accepted
unfoldable pub opened : Header → ℕ → ℕ → List ℕ → List ℕ → LineRead
opened h n next ns bs =
    put_back (read_opened (opening h.config (node_part h ns) (bucket_part h bs)) h n (λ s. reader EventDue h s.machine next)) ns bs

-- an event's turn
unfoldable pub turn_line : Reader → List ℕ → List ℕ → InputLine → LineRead
turn_line r ns bs l = put_back (read_turn (turn l) (with_part r ns bs) l) ns bs

-- the line after an opening
unfoldable pub opened_line : LineRead → InputLine → LineRead
opened_line d l = if awaits_event d.reader.phase then turn_line d.reader d.nodes d.buckets l else d

-- what a line says where a header line is due
unfoldable pub header_line : HeaderStep → Reader → List ℕ → List ℕ → InputLine → LineRead
header_line (Next due h) r ns bs l = line_read (reader_of (Due due) h r.state (next_number r.number)) ns bs
header_line (Complete h) r ns bs l = opened h r.number (next_number r.number) ns bs
header_line (Absent h) r ns bs l = opened_line (opened h r.number r.number ns bs) l
header_line Missing r ns bs l = line_read (decided (Refusal 10) r) ns bs

-- by what is awaited. Where a header line is due, the header may change, and with it the reader's part of the pools
unfoldable pub phase_line : ReaderPhase → Reader → List ℕ → List ℕ → InputLine → LineRead
phase_line (Due due) r ns bs l = header_line (header_step due r.header l) r ns bs l
phase_line EventDue r ns bs l = turn_line r ns bs l
phase_line (Printed k o) r ns bs l = put_back (read_phase (Printed k o) (with_part r ns bs) l) ns bs
phase_line (Listed k) r ns bs l = put_back (read_phase (Listed k) (with_part r ns bs) l) ns bs
phase_line (Decided v) r ns bs l = line_read r ns bs

unfoldable pub read_line : Reader → List ℕ → List ℕ → InputLine → LineRead
read_line r ns bs l = phase_line r.phase r ns bs l

-- ---- the end of the input, whose last line is closed or is not: what is answered. The pools are only read

-- where a line is missing: this refusal, unless the answer is given already
unfoldable pub answer_at_end : ReaderPhase → ℕ → Verdict
answer_at_end (Due due) refusal = Refusal refusal
answer_at_end EventDue refusal = Refusal refusal
answer_at_end (Printed k o) refusal = Refusal refusal
answer_at_end (Listed k) refusal = Refusal refusal
answer_at_end (Decided v) refusal = v

-- the opening's refusal, or else this one
unfoldable pub judged_end : ℕ → ℕ → Verdict
judged_end why refusal = if eqb why 0 then Refusal refusal else Refusal why

-- where a header line that may be left out is due, the opening is judged and not made: nothing would be run after it
unfoldable pub phase_end : ReaderPhase → Bool → Reader → List ℕ → List ℕ → Verdict
phase_end (Due due) closed r ns bs =
    let h = r.header in
    if optional due then judged_end (opening h.config (node_part h ns) (bucket_part h bs)).refusal (missing closed)
    else Refusal (missing closed)
phase_end EventDue closed r ns bs = Refusal (missing closed)
phase_end (Printed k o) closed r ns bs = Refusal (missing closed)
phase_end (Listed k) closed r ns bs = if closed then listing_end (drop k (listing (with_part r ns bs).machine)) else Refusal (missing closed)
phase_end (Decided v) closed r ns bs = v

unfoldable pub read_end : Bool → Reader → List ℕ → List ℕ → Verdict
read_end closed r ns bs = phase_end r.phase closed r ns bs

-- ---- what the code is held to

pub record ReadAs (d : LineRead) (r : Reader) (ns bs : List ℕ) : Type 0 where
  pub next : r ≡ d.reader
  pub nodes : ns ≡ d.nodes
  pub buckets : bs ≡ d.buckets
