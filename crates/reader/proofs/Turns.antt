-- What a line is, and the end of the input, by what the reader awaits: laws in the form in which the branches of the functions use them.
-- Assumes nothing.
use Rattle.std.specs.Prelude.{if◌then◌else◌, Option}
use mathlib.Core.Path.{◌≡◌, refl, sym, ap, subst, ◌∙◌}
use mathlib.Core.List.{List}
use mathlib.Core.Bool.{Bool, true, false}
use Prim.Native.Nat.{ℕ, ◌≤◌, min}
use native.Mathlib.Omega.{arith}
use borrow.Author.Tests.{eq-eqb, ne_eqb}
use lib.Dec.{eqb}
use Rattle.spec.specs.Entries.{opening}
use Rattle.session.specs.declared.EventLine.{EventLine}
use Rattle.session.specs.declared.Header.{Header}
use Rattle.session.specs.declared.HeaderStep.{HeaderStep}
use Rattle.session.specs.declared.HeaderStep.TheVariants.{Next, Complete, Absent, Missing}
use Rattle.session.specs.Keys.{size_key}
use Rattle.session.specs.Grammar.{InputLine, closed_line, starts_with, parse_event_line}
use Rattle.recording.specs.declared.ReaderPhase.{ReaderPhase}
use Rattle.recording.specs.declared.ReaderPhase.TheVariants.{Due, Event as EventDue, Decided}
use Rattle.recording.specs.declared.Verdict.{Verdict}
use Rattle.recording.specs.declared.Verdict.TheVariants.{Refusal}
use Rattle.recording.specs.Verdict.{lists, event_turn, turn}
use Rattle.reader_state.specs.declared.Reader.{Reader}
use Rattle.session_pools.specs.PoolParts.{node_part, bucket_part}
use Rattle.session_machine.specs.declared.Stage.{Stage}
use Rattle.session_machine.specs.declared.Stage.TheVariants.{NextDue, OpenedBy, OpenedBefore, OpeningRefused, Incomplete}
use Rattle.session_machine.specs.Stages.{part_opening, Reached, opened_stage, header_stage, stage_opened, at_stage}
use Rattle.recording.specs.Reader.{reader, decided, read_opened}
use Rattle.reader_state.specs.Standing.{most_lines, next_number, reader_of, LineRead, line_read, put_back, decided as state-decided, awaits_event, opened}
use Rattle.reader_state.specs.Standing.{turn_line, opened_line, header_line}
use Rattle.reader_state.specs.Standing.{phase_line, read_line, answer_at_end, judged_end, phase_end, read_end, ReadAs}

next_few : (n : ℕ) → next_number n ≤ most_lines
unfolding next_number
next_few n = omega arith

-- ---- an event's turn

pub turn_lists : (l : List ℕ) → starts_with size_key l ≡ true → turn (closed_line l) ≡ lists
unfolding turn
turn_lists l e = rw e

pub turn_event : (l : List ℕ) (x : Option EventLine) → starts_with size_key l ≡ false → parse_event_line (closed_line l) ≡ x → turn (closed_line l) ≡ event_turn x
unfolding turn
turn_event l x e f = rw (e, f)

-- ---- a line of number n where a header line is due, by the stage that it reaches

module _ (n : ℕ) (l : InputLine) where
  unfoldable pub staged : Stage → Reached → LineRead
  staged (NextDue due) t = line_read (reader_of (Due due) t.header t.state (next_number n)) t.nodes t.buckets
  staged OpenedBy t = line_read (reader_of EventDue t.header t.state (next_number n)) t.nodes t.buckets
  staged OpenedBefore t = turn_line (reader_of EventDue t.header t.state n) t.nodes t.buckets l
  staged (OpeningRefused why) t = line_read (reader_of (Decided (Refusal why)) t.header t.state n) t.nodes t.buckets
  staged Incomplete t = line_read (reader_of (Decided (Refusal 10)) t.header t.state n) t.nodes t.buckets

module _ (r : Reader) (ns bs : List ℕ) (l : InputLine) (fits : r.number ≤ most_lines) where
  module _ (h : Header) where
    abbrev left : ReaderPhase → ℕ → LineRead
    left phase k = let y = (part_opening h ns bs).machine in line_read (reader_of phase h y.state k) y.nodes y.buckets

    abbrev why : ℕ
    why = (part_opening h ns bs).refusal

    opens : (next : ℕ) → next ≤ most_lines
        → opened h r.number next ns bs ≡ (if eqb why 0 then left EventDue next else left (Decided (Refusal why)) r.number)
    unfolding opened read_opened decided put_back part_opening
    opens next few = go (eqb why 0)
      where
        same : (k : ℕ) → k ≤ most_lines → min k most_lines ≡ k
        same k g = omega arith

        go : (a : Bool) → put_back (if a then reader EventDue h (opening h.config (node_part h ns) (bucket_part h bs)).machine next
            else decided (Refusal why) (reader EventDue h (opening h.config (node_part h ns) (bucket_part h bs)).machine r.number)) ns bs
            ≡ (if a then left EventDue next else left (Decided (Refusal why)) r.number)
        go true = ap (left EventDue) (same next few)
        go false = ap (left (Decided (Refusal why))) (same r.number fits)

    turns : (a : Bool) → opened_line (if a then left EventDue r.number else left (Decided (Refusal why)) r.number) l
        ≡ (if a then turn_line (left EventDue r.number).reader (left EventDue r.number).nodes (left EventDue r.number).buckets l
        else left (Decided (Refusal why)) r.number)
    unfolding opened_line awaits_event
    turns true = refl
    turns false = refl

  abbrev stage_of : HeaderStep → Reached
  stage_of a = header_stage a r.header r.state ns bs

  by_stage : (a : HeaderStep) → header_line a r ns bs l ≡ staged r.number l (stage_of a).stage (stage_of a)
  unfolding header_line staged header_stage opened_stage state-decided
  by_stage (Next due h) = refl
  by_stage (Complete h) =
      opens h (next_number r.number) (next_few r.number) ∙ sym (stage_opened (staged r.number l) OpenedBy h (part_opening h ns bs))
  by_stage (Absent h) =
      ap (λ (d : LineRead). opened_line d l) (opens h r.number fits) ∙ turns h (eqb (why h) 0)
      ∙ sym (stage_opened (staged r.number l) OpenedBefore h (part_opening h ns bs))
  by_stage Missing = refl

  pub header_read : (a : HeaderStep) {t : Reached} {g : Stage} {s : Reader} {n' b' : List ℕ} → t ≡ stage_of a → t.stage ≡ g
      → ReadAs (staged r.number l g t) s n' b' → ReadAs (header_line a r ns bs l) s n' b'
  header_read a {s = s} {n' = n'} {b' = b'} e q h =
      subst (λ (d : LineRead). ReadAs d s n' b') (sym (by_stage a)) (at_stage (λ d. ReadAs d s n' b') (staged r.number l) e q h)

-- ---- by what is awaited

module _ (r : Reader) (p : ReaderPhase) (e : r.phase ≡ p) (ns bs : List ℕ) where
  pub reads_line : (l : InputLine) (s : Reader) (n' b' : List ℕ) → ReadAs (phase_line p r ns bs l) s n' b' → ReadAs (read_line r ns bs l) s n' b'
  unfolding read_line
  reads_line l s n' b' h = subst (λ (q : ReaderPhase). ReadAs (phase_line q r ns bs l) s n' b') (sym e) h

  pub reads_end : (closed : Bool) (v : Verdict) → v ≡ phase_end p closed r ns bs → v ≡ read_end closed r ns bs
  unfolding read_end
  reads_end closed v h = h ∙ ap (λ (q : ReaderPhase). phase_end q closed r ns bs) (sym e)

-- ---- the end

-- in a phase in which no line of the listing is asked for
pub ends_answered : (p q : ReaderPhase) → p ≡ q → (n refusal : ℕ) → n ≡ refusal → (v : Verdict) → v ≡ answer_at_end p n → v ≡ answer_at_end q refusal
ends_answered p q e n refusal f v g = let same : answer_at_end p n ≡ answer_at_end q refusal = cc (e, f) in g ∙ same

-- the opening is judged: it is refused, or accepted
module _ (why o refusal : ℕ) (e : why ≡ o) where
  pub judged_refused : (why ≡ 0 → ⊥) → Refusal why ≡ judged_end o refusal
  unfolding judged_end
  judged_refused d = rw (sym e, ne_eqb why 0 d) refl

  pub judged_accepted : why ≡ 0 → {k : ℕ} → k ≡ refusal → Refusal k ≡ judged_end o refusal
  unfolding judged_end
  judged_accepted z f = rw (sym e, eq-eqb why 0 z) (ap Refusal f)
