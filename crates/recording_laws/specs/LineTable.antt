-- What a line after the header decides, by where the reader stands: a table for 10 and for a difference, and one for the end of the lines,
-- in plain propositions; and that a reader is decided so exactly if the table has it: `line_view`, `line_10`, `line_differs`, `end_view`,
-- `end_12`, `end_same`. By cases on where it stands. Assumes nothing.
use Rattle.std.proofs.Math.Path.{◌≡◌, refl, ap}
use Rattle.std.proofs.Common.{◌∙◌, inr}
use Rattle.std.specs.Prelude.{◌⊎◌, Bool, ℕ, suc, ◌+◌, if◌then◌else◌, Option, Some, None}
use Rattle.std.proofs.Math.Logic.{inl}
use mathlib.Core.List.{List, [], ◌∷◌}
use Rattle.std.proofs.Math.Bool.{true, false, not}
use native.Mathlib.Omega.{arith}
use Rattle.std.proofs.Math.ListN.{drop}
use Rattle.spec.specs.Machine.{Machine}
use Rattle.laws.specs.Tests.{tf}
use Rattle.session.specs.declared.EventLine.{EventLine}
use Rattle.session.specs.declared.EventLine.TheVariants.{Start, Step}
use Rattle.session.specs.Keys.{size_key}
use Rattle.session.specs.Grammar.{InputLine, starts_with, parse_event_line}
use Rattle.session.specs.Print.{output_line}
use Rattle.recording.specs.declared.ReaderPhase.{ReaderPhase}
use Rattle.recording.specs.declared.ReaderPhase.TheVariants.{Due, Event as EventDue, Printed, Listed, Decided}
use Rattle.recording.specs.declared.Verdict.{Verdict}
use Rattle.recording.specs.declared.Verdict.TheVariants.{Same, Differs, Refusal}
use Rattle.recording_laws.specs.Comparing.{CompareView, unclosed, the_line, other, compare_view, compare_unclosed, compare_other}
use Rattle.recording_laws.specs.ReaderVerdict.{unclosed_listed}
use Rattle.recording.specs.Recording.{RecordedLine, close, listing}
use Rattle.recording.specs.Verdict.{Compared, compare_line, past_listing, Turn, lists, gives_10, event_turn, turn}
use Rattle.recording.specs.Reader.{Reader, moved, decided, after_comparing, compare_listed, read_listed, run_event, read_turn, read_phase}
use Rattle.recording.specs.Reader.{listing_end, read_phase_end}

-- ---- the table

-- the reader is past the header, and undecided
unfoldable pub judging : ReaderPhase → Bool
judging (Due due) = false
judging EventDue = true
judging (Printed k o) = true
judging (Listed k) = true
judging (Decided v) = false

-- "10 is for header and event lines and for a line not closed": at an event's turn, a line outside the grammar too
unfoldable pub Gives10 : ReaderPhase → InputLine → Type 0
Gives10 (Due due) l = ⊥
Gives10 EventDue l = (l.closed ≡ false) ⊎ ((starts_with size_key l.bytes ≡ false) × (parse_event_line l ≡ None))
Gives10 (Printed k o) l = l.closed ≡ false
Gives10 (Listed k) l = l.closed ≡ false
Gives10 (Decided v) l = ⊥

-- the line is not the listing's line k, or there is none
abbrev pub OtherListed : ℕ → Machine → InputLine → Type 0
OtherListed k y l = (p : RecordedLine) (ps : List RecordedLine) → drop k (listing y) ≡ p ∷ ps → ¬ (close l.bytes ≡ p.written)

-- a closed line that is not what the machine prints: for an event, as the listing's first line where it starts with `size=`, and as a
-- later one
unfoldable pub NotPrinted : ReaderPhase → Machine → InputLine → Type 0
NotPrinted (Due due) y l = ⊥
NotPrinted EventDue y l = (l.closed ≡ true) × (starts_with size_key l.bytes ≡ true) × OtherListed 0 y l
NotPrinted (Printed k o) y l = (l.closed ≡ true) × (¬ (close l.bytes ≡ output_line k o))
NotPrinted (Listed k) y l = (l.closed ≡ true) × OtherListed k y l
NotPrinted (Decided v) y l = ⊥

-- where the lines end: "12, a line missing where the pattern needs one": an event's line or the listing's first, an output line, a line of
-- the listing
unfoldable pub Lacks : ReaderPhase → Machine → Type 0
Lacks (Due due) y = ⊥
Lacks EventDue y = record {}
Lacks (Printed k o) y = record {}
Lacks (Listed k) y = ¬ (drop k (listing y) ≡ [])
Lacks (Decided v) y = ⊥

-- the listing is whole
unfoldable pub Whole : ReaderPhase → Machine → Type 0
Whole (Due due) y = ⊥
Whole EventDue y = ⊥
Whole (Printed k o) y = ⊥
Whole (Listed k) y = drop k (listing y) ≡ []
Whole (Decided v) y = ⊥

-- ---- what a line makes of a reader in phase p, and the table's reason

pub data LineView (p : ReaderPhase) (r : Reader) (l : InputLine) (s : Reader) : Type 0 where
  goes_on : judging s.phase ≡ true → s.number ≡ suc r.number → LineView p r l s
  is_10 : Gives10 p l → s.phase ≡ Decided (Refusal 10) → LineView p r l s
  differs : NotPrinted p r.machine l → s.phase ≡ Decided (Differs r.number) → LineView p r l s

module _ (r : Reader) (l : InputLine) where
  -- the listing's lines from place k on, where it is that line's turn in phase p
  listed_view : (p : ReaderPhase) (k : ℕ) → (l.closed ≡ false → Gives10 p l) → (l.closed ≡ true → OtherListed k r.machine l → NotPrinted p r.machine l)
      → (rs : List RecordedLine) → drop k (listing r.machine) ≡ rs → LineView p r l (compare_listed k rs r l)
  unfolding compare_listed past_listing after_comparing moved decided judging
  listed_view p k ten differ [] e = past l.closed refl
    where
      past : (b : Bool) → l.closed ≡ b → LineView p r l (decided (if not b then Refusal 10 else Differs r.number) r)
      past true c = differs (differ c (λ q qs f. absurd (none f))) refl
        where
          none : {q : RecordedLine} {qs : List RecordedLine} → drop k (listing r.machine) ≡ q ∷ qs → ⊥
          none f = let z : ◌≡◌ {A = ℕ} 0 1 = cc in omega arith
      past false c = is_10 (ten c) refl
  listed_view p k ten differ (q ∷ qs) e = compared (compare_line r.number q.written l) (compare_view r.number q.written l)
    where
      compared : (c : Compared) → CompareView r.number q.written l c → LineView p r l (after_comparing c (Listed (k + 1)) r)
      compared c (unclosed f) = is_10 (ten f) refl
      compared c (the_line f g) = goes_on refl refl
      compared c (other f g) = differs (differ f (λ a later h i. g (i ∙ ap (λ (x : RecordedLine). x.written) (first_same h)))) refl
        where
          first_same : {a : RecordedLine} {later : List RecordedLine} → drop k (listing r.machine) ≡ a ∷ later → a ≡ q
          first_same h = cc

  event_view : (x : Option EventLine) → parse_event_line l ≡ x → l.closed ≡ true → starts_with size_key l.bytes ≡ false
      → LineView EventDue r l (read_turn (event_turn x) r l)
  unfolding read_turn event_turn run_event moved decided judging Gives10
  event_view (Some (Start k call tag)) e c s = goes_on refl refl
  event_view (Some (Step k)) e c s = goes_on refl refl
  event_view None e c s = is_10 (inr (s, e)) refl

  pub phase_view : (p : ReaderPhase) → judging p ≡ true → LineView p r l (read_phase p r l)
  unfolding read_phase judging read_turn read_listed after_comparing moved decided turn Gives10 NotPrinted
  phase_view (Due due) j = absurd (tf j refl)
  phase_view EventDue j = turned l.closed (starts_with size_key l.bytes) refl refl
    where
      turned : (a b : Bool) → l.closed ≡ a → starts_with size_key l.bytes ≡ b
          → LineView EventDue r l (read_turn (if not a then gives_10 else if b then lists else event_turn (parse_event_line l)) r l)
      turned false b c s = is_10 (inl c) refl
      turned true true c s = listed_view EventDue 0 inl (λ d o. (d, s, o)) (listing r.machine) refl
      turned true false c s = event_view (parse_event_line l) refl c s
  phase_view (Printed k o) j = compared (compare_line r.number (output_line k o) l) (compare_view r.number (output_line k o) l)
    where
      compared : (c : Compared) → CompareView r.number (output_line k o) l c → LineView (Printed k o) r l (after_comparing c EventDue r)
      compared c (unclosed f) = is_10 f refl
      compared c (the_line f g) = goes_on refl refl
      compared c (other f g) = differs (f, g) refl
  phase_view (Listed k) j = listed_view (Listed k) k (λ c. c) (λ c d. (c, d)) (drop k (listing r.machine)) refl
  phase_view (Decided v) j = absurd (tf j refl)

-- ---- and back

module _ (r : Reader) (l : InputLine) where
  pub phase_10 : (p : ReaderPhase) → Gives10 p l → (read_phase p r l).phase ≡ Decided (Refusal 10)
  unfolding read_phase read_turn read_listed after_comparing decided turn event_turn Gives10
  phase_10 (Due due) g = absurd g
  phase_10 EventDue (inl c) = rw c
  phase_10 EventDue (inr g) = turned l.closed
    where
      turned : (a : Bool)
          → (read_turn (if not a then gives_10 else if starts_with size_key l.bytes then lists else event_turn (parse_event_line l)) r l).phase
          ≡ Decided (Refusal 10)
      turned false = refl
      turned true = rw (g.0, g.1)
  phase_10 (Printed k o) c = rw (compare_unclosed r.number (output_line k o) l c)
  phase_10 (Listed k) c = ap (λ (s : Reader). s.phase) (unclosed_listed k (drop k (listing r.machine)) r l c)
  phase_10 (Decided v) g = absurd g

  listed_differs : (k : ℕ) (rs : List RecordedLine) → drop k (listing r.machine) ≡ rs → l.closed ≡ true → OtherListed k r.machine l
      → (compare_listed k rs r l).phase ≡ Decided (Differs r.number)
  unfolding compare_listed past_listing after_comparing decided
  listed_differs k [] e c o = rw c
  listed_differs k (p ∷ ps) e c o = rw (compare_other r.number p.written l c (o p ps e))

  turn_lists : l.closed ≡ true → starts_with size_key l.bytes ≡ true → turn l ≡ lists
  unfolding turn
  turn_lists c s = rw (c, s)

  pub phase_differs : (p : ReaderPhase) → NotPrinted p r.machine l → (read_phase p r l).phase ≡ Decided (Differs r.number)
  unfolding read_phase read_turn read_listed after_comparing decided turn NotPrinted
  phase_differs (Due due) g = absurd g
  phase_differs EventDue g =
      ap (λ (u : Turn). (read_turn u r l).phase) (turn_lists g.0 g.1) ∙ listed_differs 0 (listing r.machine) refl g.0 g.2
  phase_differs (Printed k o) g = rw (compare_other r.number (output_line k o) l g.0 g.1)
  phase_differs (Listed k) g = listed_differs k (drop k (listing r.machine)) refl g.0 g.1
  phase_differs (Decided v) g = absurd g

-- ---- the end of the lines

-- what it answers in phase p, and the table's reason
pub data EndView (p : ReaderPhase) (y : Machine) (v : Verdict) : Type 0 where
  is_12 : Lacks p y → v ≡ Refusal 12 → EndView p y v
  is_same : Whole p y → v ≡ Same → EndView p y v

pub end_view : (p : ReaderPhase) (r : Reader) → judging p ≡ true → EndView p r.machine (read_phase_end p r)
unfolding read_phase_end judging Lacks Whole listing_end
end_view (Due due) r j = absurd (tf j refl)
end_view EventDue r j = is_12 (record {}) refl
end_view (Printed k o) r j = is_12 (record {}) refl
end_view (Listed k) r j = go (drop k (listing r.machine)) refl
  where
    go : (rs : List RecordedLine) → drop k (listing r.machine) ≡ rs → EndView (Listed k) r.machine (listing_end (drop k (listing r.machine)))
    go [] e = is_same e (ap listing_end e)
    go (p ∷ ps) e = is_12 (λ q. let z : ◌≡◌ {A = ℕ} 0 1 = cc in omega arith) (ap listing_end e)
end_view (Decided v) r j = absurd (tf j refl)

pub end_12 : (p : ReaderPhase) (r : Reader) → Lacks p r.machine → read_phase_end p r ≡ Refusal 12
unfolding read_phase_end Lacks listing_end
end_12 (Due due) r g = absurd g
end_12 EventDue r g = refl
end_12 (Printed k o) r g = refl
end_12 (Listed k) r g = go (drop k (listing r.machine)) g
  where
    go : (rs : List RecordedLine) → ¬ (rs ≡ []) → listing_end rs ≡ Refusal 12
    go [] d = absurd (d refl)
    go (p ∷ ps) d = refl
end_12 (Decided v) r g = absurd g

pub end_same : (p : ReaderPhase) (r : Reader) → Whole p r.machine → read_phase_end p r ≡ Same
unfolding read_phase_end Whole listing_end
end_same (Due due) r g = absurd g
end_same EventDue r g = absurd g
end_same (Printed k o) r g = absurd g
end_same (Listed k) r g = ap listing_end g
end_same (Decided v) r g = absurd g
