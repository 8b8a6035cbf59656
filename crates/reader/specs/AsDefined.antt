-- A reader over lent pools of at least 64 nodes and 200 buckets, whatever they hold, stands where the reader of recording's definitions stands:
-- `AsDefined`. A line keeps this, `line_as_defined`, and so the answer at the end is the same, `end_as_defined`. An answer that is given stays: `decides`.
-- Assumes nothing.
use Rattle.std.specs.Prelude.{◌≡◌, Bool, eqb, length, drop, if◌then◌else◌}
use Rattle.std.proofs.Math.Path.{refl, sym, ap}
use Rattle.std.proofs.Common.{subst, ◌∙◌, eq-eqb, ne_eqb, eqb-true}
use mathlib.Core.List.{List, [], ◌∷◌}
use Rattle.std.proofs.Math.Bool.{true, false}
use Prim.Native.Nat.{ℕ, suc, ◌+◌, ◌<◌, ◌≤◌, min}
use native.Mathlib.Omega.{arith}
use Rattle.std.proofs.lemmas.Bool.{eqb-false}
use Rattle.spec.specs.Machine.{Machine}
use Rattle.spec.specs.Entries.{Opened, opening}
use Rattle.laws.specs.Tests.{tf}
use Rattle.session.specs.declared.Header.{Header}
use Rattle.session.specs.declared.HeaderLine.{HeaderLine}
use Rattle.session.specs.declared.HeaderStep.{HeaderStep}
use Rattle.session.specs.declared.HeaderStep.TheVariants.{Next, Complete, Absent, Missing}
use Rattle.session.specs.Grammar.{InputLine, open_line, admissible}
use Rattle.session.specs.Header.{optional, header_step}
use Rattle.session.proofs.LineLaws.{outside_step}
use Rattle.session.specs.Print.{output_line}
use Rattle.session.specs.Transcript.{session_opening}
use Rattle.session_pools.specs.PoolParts.{node_extent, bucket_extent, node_part, bucket_part}
use Rattle.session_state.specs.declared.Phase.TheVariants.{Events}
use Rattle.session_state.specs.Handling.{with_machine}
use Rattle.session_lines.specs.PoolLengths.{event_lengths}
use Rattle.session_lines.specs.Openings.{part_length, part_words, machine_back, Alike, opening_same, opening_lengths}
use Rattle.recording.specs.declared.ReaderPhase.{ReaderPhase}
use Rattle.recording.specs.declared.ReaderPhase.TheVariants.{Due, Event as EventDue, Printed, Listed, Decided}
use Rattle.recording.specs.declared.Verdict.{Verdict}
use Rattle.recording.specs.declared.Verdict.TheVariants.{Refusal}
use Rattle.recording.specs.Recording.{RecordedLine, listing}
use Rattle.recording.specs.Verdict.{Compared, as_printed, fails, compare_line, Turn, runs, lists, gives_10, turn}
use Rattle.recording.specs.Reader as defined
use Rattle.recording.specs.Reader.{reader, moved, after_comparing as compared-by, decided as decided-by, compare_listed, read_listed, run_event, read_turn}
use Rattle.recording.specs.Reader.{read_opened, read_header_line, read_phase, opened_end, read_phase_end, read_end, read_lines}
use Rattle.recording.specs.Reader.{read_line as read-defined}
use Rattle.recording_laws.specs.ReaderVerdict.{stays_decided, unclosed_listed}
use Rattle.reader_state.specs.Standing.{most_lines, next_number, missing, with_part, LineRead, put_back, decided, awaits_event, opened}
use Rattle.reader_state.specs.Standing.{turn_line, opened_line, header_line, phase_line, read_line, judged_end, phase_end, read_end as end-given}

-- the header is read, or the answer is given
unfoldable pub past_header : ReaderPhase → Bool
past_header (Due due) = false
past_header EventDue = true
past_header (Printed k o) = true
past_header (Listed k) = true
past_header (Decided v) = true

abbrev pub part_of : LineRead → defined.Reader
part_of d = with_part d.reader d.nodes d.buckets

-- before the opening the machine is not looked at, nor after the answer is given; otherwise it is the one in the reader's part of the pools
pub data AsDefined (d : LineRead) : defined.Reader → Type 0 where
  in_header : {due : HeaderLine} {y : Machine} → d.reader.phase ≡ Due due → 2176 ≤ length d.nodes → 13200 ≤ length d.buckets
      → AsDefined d (reader (Due due) d.reader.header y d.reader.number)
  with_machine_of : past_header d.reader.phase ≡ true → AsDefined d (part_of d)
  answered : {v : Verdict} {h : Header} {y : Machine} {n : ℕ} → d.reader.phase ≡ Decided v → AsDefined d (reader (Decided v) h y n)

pub same_phase : (d : LineRead) {e : defined.Reader} → AsDefined d e → d.reader.phase ≡ e.phase
unfolding with_part
same_phase d (in_header p f g) = p
same_phase d (with_machine_of p) = refl
same_phase d (answered p) = p

as_part : {d : LineRead} {e : defined.Reader} → part_of d ≡ e → past_header e.phase ≡ true → AsDefined d e
unfolding with_part
as_part {d} same p = subst (AsDefined d) same (with_machine_of (ap (λ (x : defined.Reader). past_header x.phase) same ∙ p))

-- ---- an answer that is given stays

unfoldable pub is_decided : ReaderPhase → Bool
is_decided (Due due) = false
is_decided EventDue = false
is_decided (Printed k o) = false
is_decided (Listed k) = false
is_decided (Decided v) = true

pub stays : (e : defined.Reader) (v : Verdict) (ls : List InputLine) → e.phase ≡ Decided v → read_lines e ls ≡ v
stays e v ls q =
    subst (λ (p : ReaderPhase). read_lines (reader p e.header e.machine e.number) ls ≡ v) (sym q)
    (stays_decided v e.header e.machine e.number ls)

pub decides : (e : defined.Reader) → is_decided e.phase ≡ true → (ls : List InputLine) → read_lines e ls ≡ read_lines e []
unfolding is_decided
decides e h ls = go e.phase refl h
  where
    go : (p : ReaderPhase) → e.phase ≡ p → is_decided p ≡ true → read_lines e ls ≡ read_lines e []
    go (Due due) q z = absurd (tf z refl)
    go EventDue q z = absurd (tf z refl)
    go (Printed k o) q z = absurd (tf z refl)
    go (Listed k) q z = absurd (tf z refl)
    go (Decided v) q z = stays e v ls q ∙ sym (stays e v [] q)

-- ---- after the opening

-- what a line keeps: the header, and the length of the pools
record Keeps (e f : defined.Reader) : Type 0 where
  header : f.header ≡ e.header
  nodes : length f.machine.nodes ≡ length e.machine.nodes
  buckets : length f.machine.buckets ≡ length e.machine.buckets
  past : past_header f.phase ≡ true
  number : f.number ≤ suc e.number

keeps : (phase : ReaderPhase) (n : ℕ) (e : defined.Reader) → past_header phase ≡ true → n ≤ suc e.number
    → Keeps e (reader phase e.header e.machine n)
keeps phase n e p few = record { header = refl; nodes = refl; buckets = refl; past = p; number = few }

compared_keeps : (c : Compared) (phase : ReaderPhase) (e : defined.Reader) → past_header phase ≡ true → Keeps e (compared-by c phase e)
unfolding compared-by moved decided-by past_header
compared_keeps as_printed phase e p = keeps phase _ e p (omega arith)
compared_keeps (fails v) phase e p = keeps (Decided v) _ e refl (omega arith)

listed_keeps : (k : ℕ) (ps : List RecordedLine) (e : defined.Reader) (l : InputLine) → Keeps e (compare_listed k ps e l)
unfolding compare_listed decided-by past_header
listed_keeps k [] e l = keeps (Decided _) _ e refl (omega arith)
listed_keeps k (p ∷ ps) e l = compared_keeps (compare_line e.number p.written l) (Listed (k + 1)) e refl

turn_keeps : (t : Turn) (e : defined.Reader) (l : InputLine) → Keeps e (read_turn t e l)
unfolding read_turn run_event moved read_listed decided-by past_header
turn_keeps (runs x) e l =
    let long = event_lengths e.machine x in
    record { header = refl; nodes = long.nodes; buckets = long.buckets; past = refl; number = omega arith }
turn_keeps lists e l = listed_keeps 0 (drop 0 (listing e.machine)) e l
turn_keeps gives_10 e l = keeps (Decided (Refusal 10)) _ e refl (omega arith)

-- a reader put back stands where it stood
module _ (e : defined.Reader) (ns bs : List ℕ) (en : length e.machine.nodes ≡ node_extent e.header ns)
    (eb : length e.machine.buckets ≡ bucket_extent e.header bs) (few : e.number ≤ most_lines) where
  part_back : part_of (put_back e ns bs) ≡ e
  unfolding with_part put_back with_machine
  part_back =
      let same : min e.number most_lines ≡ e.number = omega arith in
      let back = machine_back Events [] e.machine e.header ns bs en eb in
      ap (λ (n : ℕ). reader e.phase e.header (part_of (put_back e ns bs)).machine n) same
      ∙ ap (λ (y : Machine). reader e.phase e.header y e.number) back

-- what a line moves both readers to
pub record Both (d : LineRead) (f : defined.Reader) (most : ℕ) : Type 0 where
  pub stands : AsDefined d f
  pub number : f.number ≤ most

-- where the reader's machine is in its part of the pools
module _ (d : LineRead) (few : d.reader.number < most_lines) where
  kept : (f : defined.Reader) → Keeps (part_of d) f → Both (put_back f d.nodes d.buckets) f (suc d.reader.number)
  unfolding with_part
  kept f k =
      let h : Header = d.reader.header in
      record {
        stands =
            as_part
            (part_back f d.nodes d.buckets
            (k.nodes ∙ part_length 34 64 h.nodes d.nodes ∙ ap (λ (x : Header). node_extent x d.nodes) (sym k.header))
            (k.buckets ∙ part_length 66 200 h.buckets d.buckets ∙ ap (λ (x : Header). bucket_extent x d.buckets) (sym k.header))
            (omega (arith, k.number)))
            k.past;
        number = k.number;
      }

  turn_as : (l : InputLine) → Both (turn_line d.reader d.nodes d.buckets l) (read_turn (turn l) (part_of d) l) (suc d.reader.number)
  unfolding turn_line
  turn_as l = kept _ (turn_keeps (turn l) (part_of d) l)

  phase_as : (l : InputLine) (p : ReaderPhase) → d.reader.phase ≡ p → past_header p ≡ true
      → Both (phase_line p d.reader d.nodes d.buckets l) (read_phase p (part_of d) l) (suc d.reader.number)
  unfolding phase_line read_phase past_header read_listed with_part
  phase_as l (Due due) q p = absurd (tf p refl)
  phase_as l EventDue q p = turn_as l
  phase_as l (Printed k o) q p = kept _ (compared_keeps (compare_line d.reader.number (output_line k o) l) EventDue (part_of d) refl)
  phase_as l (Listed k) q p = kept _ (listed_keeps k (drop k (listing (part_of d).machine)) (part_of d) l)
  phase_as l (Decided v) q p = record { stands = with_machine_of (ap past_header q); number = omega arith }

-- ---- the opening

-- the one over the reader's part of the pools, and the definition's
module _ (ns bs : List ℕ) (nodes_fit : 2176 ≤ length ns) (buckets_fit : 13200 ≤ length bs) (h : Header) where
  abbrev lent : Opened
  lent = opening h.config (node_part h ns) (bucket_part h bs)

  alike : Alike lent (session_opening h)
  unfolding session_opening
  alike =
      opening_same h.config _ _ _ _ (part_words 34 64 h.nodes ns nodes_fit (λ l. omega arith))
      (part_words 66 200 h.buckets bs buckets_fit (λ l. omega arith))

  -- it is accepted, or it is refused and that is the answer
  abbrev fresh : ℕ → defined.Reader
  fresh n = reader EventDue h (session_opening h).machine n

  opened_as : (n next : ℕ) → next ≤ most_lines → (g : defined.Reader → defined.Reader) (P : defined.Reader → Type 0)
      → (part_of (opened h n next ns bs) ≡ fresh next → P (g (fresh n)))
      → ((opened h n next ns bs).reader.phase ≡ Decided (Refusal (session_opening h).refusal)
      → P (decided-by (Refusal (session_opening h).refusal) (fresh n)))
      → P (read_opened (session_opening h) h n g)
  unfolding opened read_opened decided-by put_back
  opened_as n next few g P accepts refuses = go (eqb lent.refusal 0) refl
    where
      long : (length lent.machine.nodes ≡ node_extent h ns) × (length lent.machine.buckets ≡ bucket_extent h bs)
      long =
          let l = opening_lengths h.config (node_part h ns) (bucket_part h bs) in
          (l.nodes ∙ part_length 34 64 h.nodes ns, l.buckets ∙ part_length 66 200 h.buckets bs)

      go : (b : Bool) → eqb lent.refusal 0 ≡ b → P (read_opened (session_opening h) h n g)
      go true q =
          let z = eqb-true lent.refusal 0 q in
          let back = part_back (reader EventDue h lent.machine next) ns bs long.0 long.1 few in
          rw (eq-eqb (session_opening h).refusal 0 (sym alike.refusal ∙ z))
          (accepts (rw q (back ∙ ap (λ (y : Machine). reader EventDue h y next) (alike.machine z))))
      go false q =
          let z = eqb-false lent.refusal 0 q in
          rw (ne_eqb (session_opening h).refusal 0 (λ e. z (alike.refusal ∙ e)))
          (refuses (rw q (ap (λ (r : ℕ). Decided (Refusal r)) alike.refusal)))

  complete_as : (n : ℕ) → n < most_lines
      → Both (opened h n (next_number n) ns bs) (read_opened (session_opening h) h n (λ s. moved EventDue s.machine s)) (suc n)
  unfolding moved decided-by next_number past_header
  complete_as n few =
      let next_is : min (suc n) most_lines ≡ suc n = omega arith in
      opened_as n (next_number n) (omega arith) _ (λ (f : defined.Reader). Both (opened h n (next_number n) ns bs) f (suc n))
      (λ same. record { stands = as_part (same ∙ ap fresh next_is) refl; number = omega arith })
      (λ e. record { stands = answered e; number = omega arith })

  absent_as : (n : ℕ) (l : InputLine) → n < most_lines
      → Both (opened_line (opened h n n ns bs) l) (read_opened (session_opening h) h n (λ s. read_turn (turn l) s l)) (suc n)
  unfolding decided-by opened_line awaits_event with_part
  absent_as n l few =
      let d = opened h n n ns bs in
      opened_as n n (omega arith) _ (λ (f : defined.Reader). Both (opened_line d l) f (suc n))
      (λ same. let awaits : awaits_event d.reader.phase ≡ true = ap (λ (x : defined.Reader). awaits_event x.phase) same in
      let line = turn_line d.reader d.nodes d.buckets l in
      rw awaits
      (subst (λ (x : defined.Reader). x.number < most_lines → Both line (read_turn (turn l) x l) (suc x.number)) same (λ less. turn_as d less l) few))
      (λ e. let awaits : awaits_event d.reader.phase ≡ false = ap awaits_event e in
      rw awaits (record { stands = answered e; number = omega arith }))

  -- the end where a header line is due that may be left out: the opening is judged
  judged_as : (closed : Bool) (y : Machine) (n : ℕ) (l : List ℕ) (due : HeaderLine)
      → (if optional due then judged_end lent.refusal (missing closed) else Refusal (missing closed))
      ≡ read_lines (reader (Due due) h y n) (if closed then [] else (open_line l ∷ []))
  unfolding judged_end missing read_lines read-defined read_phase read_end read_phase_end opened_end read_header_line read_opened decided-by turn
      read_turn admissible
  judged_as true y n l due = go (optional due)
    where
      go : (b : Bool)
          → (if b then judged_end lent.refusal 12 else Refusal 12)
          ≡ (if b then opened_end (session_opening h) else Refusal 12)
      go true = ap (λ (why : ℕ). judged_end why 12) alike.refusal
      go false = refl
  judged_as false y n l due =
      go (optional due)
      ∙ sym (ap (λ (x : HeaderStep). read_end (read_header_line x (reader (Due due) h y n) (open_line l))) (outside_step due h (open_line l) refl))
    where
      opened_then : (b : Bool) (why : ℕ)
          → (if b then Refusal 10 else Refusal why)
          ≡ read_end (if b then decided-by (Refusal 10) (fresh n) else decided-by (Refusal why) (fresh n))
      opened_then true why = refl
      opened_then false why = refl

      go : (b : Bool)
          → (if b then judged_end lent.refusal 10 else Refusal 10)
          ≡ read_end (read_header_line (if b then Absent h else Missing) (reader (Due due) h y n) (open_line l))
      go true = ap (λ (why : ℕ). judged_end why 10) alike.refusal ∙ opened_then (eqb (session_opening h).refusal 0) (session_opening h).refusal
      go false = refl

-- ---- a line

header_as : (d : LineRead) (due : HeaderLine) (y : Machine) → 2176 ≤ length d.nodes → 13200 ≤ length d.buckets → d.reader.number < most_lines
    → (s : HeaderStep) (l : InputLine)
    → Both (header_line s d.reader d.nodes d.buckets l) (read_header_line s (reader (Due due) d.reader.header y d.reader.number) l)
    (suc d.reader.number)
unfolding header_line read_header_line decided decided-by next_number
header_as d due y f g few (Next due' h) l =
    let n = d.reader.number in
    let next_is : min (suc n) most_lines ≡ suc n = omega arith in
    let moved_on = header_line (Next due' h) d.reader d.nodes d.buckets l in
    record {
      stands = subst (λ (k : ℕ). AsDefined moved_on (reader (Due due') h y k)) next_is (in_header refl f g);
      number = omega arith;
    }
header_as d due y f g few (Complete h) l = complete_as d.nodes d.buckets f g h d.reader.number few
header_as d due y f g few (Absent h) l = absent_as d.nodes d.buckets f g h d.reader.number l few
header_as d due y f g few Missing l = record { stands = answered refl; number = omega arith }

pub line_as_defined : (d : LineRead) {e : defined.Reader} (l : InputLine) → AsDefined d e → e.number < most_lines
    → Both (read_line d.reader d.nodes d.buckets l) (read-defined e l) (suc e.number)
unfolding read_line read-defined read_phase phase_line with_part
line_as_defined d {e} l a few =
    subst (λ (q : ReaderPhase). Both (phase_line q d.reader d.nodes d.buckets l) (read-defined e l) (suc e.number)) (sym (same_phase d a))
    (go a few)
  where
    go : {f : defined.Reader} → AsDefined d f → f.number < most_lines
        → Both (phase_line f.phase d.reader d.nodes d.buckets l) (read-defined f l) (suc f.number)
    go (in_header {due = due} {y = y} p f g) few = header_as d due y f g few (header_step due d.reader.header l) l
    go (with_machine_of p) few = phase_as d few l d.reader.phase refl p
    go (answered p) few = record { stands = answered p; number = omega arith }

-- ---- the end, after a last line that is closed or is not

abbrev at_phase : LineRead → ReaderPhase → defined.Reader
at_phase d p = reader p d.reader.header (part_of d).machine d.reader.number

machine_end : (closed : Bool) (l : List ℕ) (d : LineRead) (p : ReaderPhase) → past_header p ≡ true
    → phase_end p closed d.reader d.nodes d.buckets ≡ read_lines (at_phase d p) (if closed then [] else (open_line l ∷ []))
unfolding past_header phase_end missing read_lines read-defined read_phase read_end read_phase_end decided-by compared-by compare_line turn read_turn
    read_listed
machine_end c l d (Due due) past = absurd (tf past refl)
machine_end true l d EventDue past = refl
machine_end false l d EventDue past = refl
machine_end true l d (Printed k o) past = refl
machine_end false l d (Printed k o) past = refl
machine_end true l d (Listed k) past = refl
machine_end false l d (Listed k) past =
    let rs = drop k (listing (part_of d).machine) in
    sym (ap (λ (x : defined.Reader). read_end x) (unclosed_listed k rs (at_phase d (Listed k)) (open_line l) refl))
machine_end c l d (Decided v) past =
    sym (stays_decided v d.reader.header (part_of d).machine d.reader.number (if c then [] else (open_line l ∷ [])))

pub end_as_defined : (closed : Bool) (l : List ℕ) (d : LineRead) {e : defined.Reader} → AsDefined d e
    → end-given closed d.reader d.nodes d.buckets ≡ read_lines e (if closed then [] else (open_line l ∷ []))
unfolding end-given phase_end with_part
end_as_defined closed l d a = ap (λ (q : ReaderPhase). phase_end q closed d.reader d.nodes d.buckets) (same_phase d a) ∙ go a
  where
    go : {f : defined.Reader} → AsDefined d f
        → phase_end f.phase closed d.reader d.nodes d.buckets ≡ read_lines f (if closed then [] else (open_line l ∷ []))
    go (in_header {due = due} {y = y} p f g) = judged_as d.nodes d.buckets f g d.reader.header closed y d.reader.number l due
    go (with_machine_of p) = machine_end closed l d d.reader.phase p
    go (answered {v = v} {h = h} {y = y} {n = n} p) = sym (stays_decided v h y n (if closed then [] else (open_line l ∷ [])))
