-- What is known of memory between two lines of a recording, as in a session (KnownMemory of session_lines): before the opening `ok` is true, and after it
-- `ok` says whether memory is sound. No line changes it: `read_known`. Assumes nothing.
use Rattle.std.specs.Prelude.{ℕ, ◌≡◌, Bool, eqb, length, drop, if◌then◌else◌}
use Rattle.std.proofs.Math.Path.{refl, sym, subst}
use Rattle.std.proofs.Common.{◌∙◌, eqb-true}
use mathlib.Core.List.{List, [], ◌∷◌}
use Rattle.std.proofs.Math.Bool.{true, false}
use Rattle.spec.specs.declared.State.{State}
use Rattle.spec.specs.Machine.{Machine}
use Rattle.spec.specs.Sound.{sound}
use Rattle.spec.specs.Entries.{Opened, opening}
use Rattle.spec.specs.Schedule.{Event}
use Rattle.laws.specs.Tests.{tf}
use Rattle.laws.specs.OpeningSound.{opening_sound}
use Rattle.known_memory.specs.EventSound.{event_sound}
use Rattle.session.specs.declared.Header.{Header}
use Rattle.session.specs.declared.HeaderStep.{HeaderStep}
use Rattle.session.specs.declared.HeaderStep.TheVariants.{Next, Complete, Absent, Missing}
use Rattle.session.specs.Grammar.{InputLine}
use Rattle.session.specs.Header.{header_step}
use Rattle.session.specs.Print.{output_line}
use Rattle.session_pools.specs.PoolParts.{node_extent, bucket_extent, node_part, bucket_part}
use Rattle.session_machine.specs.Parts.{part_machine}
use Rattle.session_state.specs.declared.Phase.TheVariants.{Events}
use Rattle.session_state.specs.Handling.{with_machine}
use Rattle.session_lines.specs.PoolLengths.{event_lengths}
use Rattle.session_lines.specs.Openings.{part_length, machine_back, opening_lengths}
use Rattle.recording.specs.declared.ReaderPhase.{ReaderPhase}
use Rattle.recording.specs.declared.ReaderPhase.TheVariants.{Due, Event as EventDue, Printed, Listed, Decided}
use Rattle.recording.specs.declared.Verdict.{Verdict}
use Rattle.recording.specs.declared.Verdict.TheVariants.{Refusal}
use Rattle.recording.specs.Recording.{RecordedLine, listing}
use Rattle.recording.specs.Verdict.{Compared, as_printed, fails, compare_line, Turn, runs, lists, gives_10, turn}
use Rattle.recording.specs.Reader.{reader, moved, decided, after_comparing, compare_listed, read_listed, run_event, read_turn, read_opened, read_phase}
use Rattle.recording.specs.Reader as defined
use Rattle.reader_state.specs.declared.Reader.{Reader}
use Rattle.reader_state.specs.Standing as standing
use Rattle.reader_state.specs.Standing.{reader_of, with_part, LineRead, put_back, awaits_event, opened, turn_line, opened_line, header_line, phase_line}
use Rattle.reader_state.specs.Standing.{read_line}

unfoldable pub Known : Bool → ReaderPhase → Machine → Type 0
Known ok (Due due) y = ok ≡ true
Known ok EventDue y = ok ≡ sound y
Known ok (Printed k o) y = ok ≡ sound y
Known ok (Listed k) y = ok ≡ sound y
Known ok (Decided v) y = ok ≡ ok

abbrev pub KnownIn : Bool → Reader → List ℕ → List ℕ → Type 0
KnownIn ok r ns bs = Known ok r.phase (part_machine r.state r.header ns bs)

-- of what a line leaves
abbrev pub KnownAfter : Bool → LineRead → Type 0
KnownAfter ok d = KnownIn ok d.reader d.nodes d.buckets

pub awaits_known : (ok : Bool) (p : ReaderPhase) (y : Machine) → awaits_event p ≡ true → Known ok p y → ok ≡ sound y
unfolding awaits_event Known
awaits_known ok (Due due) y e k = absurd (tf e refl)
awaits_known ok EventDue y e k = k
awaits_known ok (Printed j o) y e k = absurd (tf e refl)
awaits_known ok (Listed j) y e k = absurd (tf e refl)
awaits_known ok (Decided v) y e k = absurd (tf e refl)

-- a reader that is as a line leaves it
pub known_as : (ok : Bool) (d : LineRead) {r : Reader} {ns bs : List ℕ} → r ≡ d.reader → ns ≡ d.nodes → bs ≡ d.buckets
    → KnownAfter ok d → KnownIn ok r ns bs
known_as ok d {r} {ns} {bs} er en eb k =
    subst (λ (x : Reader). KnownIn ok x ns bs) (sym er)
    (subst (λ (w : List ℕ). KnownIn ok d.reader w bs) (sym en) (subst (λ (w : List ℕ). KnownIn ok d.reader d.nodes w) (sym eb) k))

module _ (ok : Bool) (ns bs : List ℕ) where
  -- a reader of the definitions whose machine is as long as its part of the pools
  record Fits (d : defined.Reader) : Type 0 where
    nodes : length d.machine.nodes ≡ node_extent d.header ns
    buckets : length d.machine.buckets ≡ bucket_extent d.header bs
    known : Known ok d.phase d.machine

  back_known : (d : defined.Reader) → Fits d → KnownAfter ok (put_back d ns bs)
  unfolding put_back with_machine
  back_known d f =
      subst (λ (y : Machine). Known ok d.phase y) (sym (machine_back Events [] d.machine d.header ns bs f.nodes f.buckets)) f.known

  -- ---- an event's turn, and a line that is compared

  module _ (r : defined.Reader) (n : length r.machine.nodes ≡ node_extent r.header ns) (b : length r.machine.buckets ≡ bucket_extent r.header bs)
    where
      decided_known : (v : Verdict) → Fits (decided v r)
      unfolding decided Known
      decided_known v = record { nodes = n; buckets = b; known = refl }

      compared_known : (c : Compared) (p : ReaderPhase) → Known ok p r.machine → Fits (after_comparing c p r)
      unfolding after_comparing moved
      compared_known as_printed p k = record { nodes = n; buckets = b; known = k }
      compared_known (fails v) p k = decided_known v

      module _ (e : ok ≡ sound r.machine) (l : InputLine) where
        listed_known : (k : ℕ) → Fits (read_listed k r l)
        unfolding read_listed compare_listed Known
        listed_known k = go (drop k (listing r.machine))
          where
            go : (ps : List RecordedLine) → Fits (compare_listed k ps r l)
            go [] = decided_known _
            go (p ∷ ps) = compared_known (compare_line r.number p.written l) (Listed _) e

        run_known : (v : Event) → Fits (run_event v r)
        unfolding run_event moved Known
        run_known v =
            let long = event_lengths r.machine v in
            record { nodes = long.nodes ∙ n; buckets = long.buckets ∙ b; known = e ∙ sym (event_sound r.machine v) }

        turn_known : (t : Turn) → Fits (read_turn t r l)
        unfolding read_turn
        turn_known (runs v) = run_known v
        turn_known lists = listed_known 0
        turn_known gives_10 = decided_known (Refusal 10)

  -- ---- the opening

  opened_fits : (y : Machine) (h : Header) (n : ℕ) → length y.nodes ≡ node_extent h ns → length y.buckets ≡ bucket_extent h bs → ok ≡ sound y
      → Fits (reader EventDue h y n)
  unfolding Known
  opened_fits y h n p q e = record { nodes = p; buckets = q; known = e }

  pub opened_known : (h : Header) (n next : ℕ) → ok ≡ true → KnownAfter ok (opened h n next ns bs)
  unfolding opened read_opened
  opened_known h n next e = go (eqb o.refusal 0) refl
    where
      o : Opened
      o = opening h.config (node_part h ns) (bucket_part h bs)

      y : defined.Reader
      y = reader EventDue h o.machine n

      nodes : length o.machine.nodes ≡ node_extent h ns
      nodes = (opening_lengths h.config (node_part h ns) (bucket_part h bs)).nodes ∙ part_length 34 64 h.nodes ns

      buckets : length o.machine.buckets ≡ bucket_extent h bs
      buckets = (opening_lengths h.config (node_part h ns) (bucket_part h bs)).buckets ∙ part_length 66 200 h.buckets bs

      go : (a : Bool) → eqb o.refusal 0 ≡ a
          → KnownAfter ok (put_back (if a then reader EventDue h o.machine next else decided (Refusal o.refusal) y) ns bs)
      go true q =
          back_known (reader EventDue h o.machine next)
          (opened_fits o.machine h next nodes buckets
          (e ∙ sym (opening_sound h.config (node_part h ns) (bucket_part h bs) (eqb-true o.refusal 0 q))))
      go false q = back_known (decided (Refusal o.refusal) y) (decided_known y nodes buckets (Refusal o.refusal))

-- ---- a line

module _ (ok : Bool) (l : InputLine) where
  turn_line_known : (r : Reader) (ns bs : List ℕ) → ok ≡ sound (part_machine r.state r.header ns bs) → KnownAfter ok (turn_line r ns bs l)
  unfolding turn_line with_part
  turn_line_known r ns bs e =
      back_known ok ns bs (read_turn (turn l) (with_part r ns bs) l)
      (turn_known ok ns bs (with_part r ns bs) (part_length 34 64 r.header.nodes ns) (part_length 66 200 r.header.buckets bs) e l (turn l))

  after_opening : (d : LineRead) → KnownAfter ok d → KnownAfter ok (opened_line d l)
  unfolding opened_line
  after_opening d k = go (awaits_event d.reader.phase) refl
    where
      go : (a : Bool) → awaits_event d.reader.phase ≡ a → KnownAfter ok (if a then turn_line d.reader d.nodes d.buckets l else d)
      go true q = turn_line_known d.reader d.nodes d.buckets (awaits_known ok d.reader.phase _ q k)
      go false q = k

  header_known : (a : HeaderStep) (r : Reader) (ns bs : List ℕ) → ok ≡ true → KnownAfter ok (header_line a r ns bs l)
  unfolding header_line standing.decided Known
  header_known (Next due h) r ns bs e = e
  header_known (Complete h) r ns bs e = opened_known ok ns bs h r.number _ e
  header_known (Absent h) r ns bs e = after_opening (opened h r.number r.number ns bs) (opened_known ok ns bs h r.number r.number e)
  header_known Missing r ns bs e = refl

  phase_known : (p : ReaderPhase) (h : Header) (m : State) (n : ℕ) (ns bs : List ℕ) → KnownIn ok (reader_of p h m n) ns bs
      → KnownAfter ok (phase_line p (reader_of p h m n) ns bs l)
  unfolding phase_line read_phase with_part Known
  phase_known (Due due) h m n ns bs e = header_known (header_step due h l) (reader_of (Due due) h m n) ns bs e
  phase_known EventDue h m n ns bs e = turn_line_known (reader_of EventDue h m n) ns bs e
  phase_known (Printed k o) h m n ns bs e =
      let r = with_part (reader_of (Printed k o) h m n) ns bs in
      back_known ok ns bs (read_phase (Printed k o) r l)
      (compared_known ok ns bs r (part_length 34 64 h.nodes ns) (part_length 66 200 h.buckets bs) (compare_line n (output_line k o) l) EventDue e)
  phase_known (Listed k) h m n ns bs e =
      let r = with_part (reader_of (Listed k) h m n) ns bs in
      back_known ok ns bs (read_phase (Listed k) r l)
      (listed_known ok ns bs r (part_length 34 64 h.nodes ns) (part_length 66 200 h.buckets bs) e l k)
  phase_known (Decided v) h m n ns bs e = refl

  pub read_known : (r : Reader) (ns bs : List ℕ) → KnownIn ok r ns bs → KnownAfter ok (read_line r ns bs l)
  unfolding read_line
  read_known r ns bs e = phase_known r.phase r.header r.state r.number ns bs e
