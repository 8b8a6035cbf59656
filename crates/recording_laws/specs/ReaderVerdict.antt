-- Given one line after the other, and ended, the reader gives the verdict: `reader_gives_verdict`. By induction over the lines, the
-- turns of events and of output lines together. Assumes nothing.
use Rattle.std.specs.Prelude.{◌≡◌, Bool, true, false, ℕ, zero, suc, ◌+◌, eqb, length, drop, if◌then◌else◌}
use Rattle.std.proofs.Math.Path.{refl, ap}
use Rattle.std.proofs.Common.{◌∙◌, arith}
use mathlib.Core.List.{List, [], ◌∷◌}
use Rattle.spec.specs.Outputs.{Output}
use Rattle.spec.specs.Machine.{Machine}
use Rattle.spec.specs.Entries.{Opened}
use Rattle.spec.specs.Schedule.{Event, event}
use Rattle.session.specs.declared.Header.{Header}
use Rattle.session.specs.declared.HeaderLine.{HeaderLine}
use Rattle.session.specs.declared.HeaderLine.TheVariants.{Tasks}
use Rattle.session.specs.declared.HeaderStep.{HeaderStep}
use Rattle.session.specs.declared.HeaderStep.TheVariants.{Next, Complete, Absent, Missing}
use Rattle.session.specs.Grammar.{InputLine, input_lines}
use Rattle.session.specs.Header.{empty_header, optional, header_step}
use Rattle.session.specs.Print.{output_line}
use Rattle.session.specs.Transcript.{task_in, session_opening}
use Rattle.recording.specs.declared.ReaderPhase.{ReaderPhase}
use Rattle.recording.specs.declared.ReaderPhase.TheVariants.{Due, Event as EventDue, Printed, Listed, Decided}
use Rattle.recording.specs.declared.Verdict.{Verdict}
use Rattle.recording.specs.declared.Verdict.TheVariants.{Refusal}
use Rattle.recording_laws.specs.Comparing.{compare_unclosed}
use Rattle.recording.specs.Header.{HeaderTaken, taken, not_taken, with_line, after_step, take_from, take_header}
use Rattle.recording.specs.Recording.{RecordedLine, listing}
use Rattle.recording.specs.Verdict.{Compared, as_printed, fails, compare_line, past_listing, Turn, runs, lists, gives_10, turn, printed_for, then_rest}
use Rattle.recording.specs.Verdict.{listing_verdict, turn_verdict, events_verdict, output_verdict, opened_verdict, header_verdict, lines_verdict, verdict}
use Rattle.recording.specs.Reader.{Reader, reader, no_machine, new_reader, moved, decided, after_comparing, compare_listed, read_listed, run_event}
use Rattle.recording.specs.Reader.{read_turn, read_opened, read_header_line, read_phase, read_line, listing_end, opened_end, read_phase_end}
use Rattle.recording.specs.Reader.{read_end, read_lines}

-- what is decided stays
pub stays_decided : (v : Verdict) (h : Header) (y : Machine) (n : ℕ) (ls : List InputLine) → read_lines (reader (Decided v) h y n) ls ≡ v
unfolding read_lines read_line read_phase read_end read_phase_end
stays_decided v h y n [] = refl
stays_decided v h y n (l ∷ ls) = stays_decided v h y n ls

-- ---- lines that are compared

module _ (h : Header) (y : Machine) (n : ℕ) (ls : List InputLine) where
  compared_lines : (c : Compared) (p next : ReaderPhase) (rest : Verdict) → read_lines (reader next h y (suc n)) ls ≡ rest
      → read_lines (after_comparing c next (reader p h y n)) ls ≡ then_rest c rest
  unfolding after_comparing moved decided then_rest
  compared_lines as_printed p next rest e = e
  compared_lines (fails v) p next rest e = stays_decided v h y n ls

-- a line that is not closed, in the listing or past it
pub unclosed_listed : (k : ℕ) (rs : List RecordedLine) (r : Reader) (l : InputLine) → l.closed ≡ false → compare_listed k rs r l ≡ decided (Refusal 10) r
unfolding compare_listed past_listing after_comparing
unclosed_listed k [] r l c = rw c
unclosed_listed k (p ∷ ps) r l c = rw (compare_unclosed r.number p.written l c)

-- the lines after the first of those from place k on
pub rest_of : {A : Type 0} (k : ℕ) (xs : List A) (x : A) (rest : List A) → drop k xs ≡ x ∷ rest → drop (k + 1) xs ≡ rest
rest_of zero [] x rest e = let z : ◌≡◌ {A = ℕ} 0 1 = cc in absurd (omega arith)
rest_of zero (a ∷ xs) x rest e = cc
rest_of (suc k) [] x rest e = let z : ◌≡◌ {A = ℕ} 0 1 = cc in absurd (omega arith)
rest_of (suc k) (a ∷ xs) x rest e =
    let s : suc k + 1 ≡ suc (k + 1) = omega arith in
    ap (λ (j : ℕ). drop j (a ∷ xs)) s ∙ rest_of k xs x rest e

-- the listing, where its line k is due and these are its lines from there on: line l, in whichever phase, and the lines after it
module _ (h : Header) (y : Machine) where
  listing_ends : (n k : ℕ) (rs : List RecordedLine) → drop k (listing y) ≡ rs → read_lines (reader (Listed k) h y n) [] ≡ listing_verdict n rs []
  unfolding read_lines read_end read_phase_end listing_end listing_verdict
  listing_ends n k [] e = ap listing_end e
  listing_ends n k (r ∷ rs) e = ap listing_end e

  listing_goes : (ls : List InputLine) (l : InputLine) (n k : ℕ) (p : ReaderPhase) (rs : List RecordedLine) → drop k (listing y) ≡ rs
      → read_lines (compare_listed k rs (reader p h y n) l) ls ≡ listing_verdict n rs (l ∷ ls)
  unfolding compare_listed decided listing_verdict read_lines read_line read_phase read_listed
  listing_goes ls l n k p [] e = stays_decided (past_listing n l) h y n ls
  listing_goes [] l n k p (r ∷ rs) e =
      let later = listing_ends (suc n) (k + 1) rs (rest_of k (listing y) r rs e) in
      compared_lines h y n [] (compare_line n r.written l) p (Listed (k + 1)) _ later
  listing_goes (m ∷ ms) l n k p (r ∷ rs) e =
      let f = rest_of k (listing y) r rs e in
      let s = reader (Listed (k + 1)) h y (suc n) in
      let later = ap (λ (ps : List RecordedLine). read_lines (compare_listed (k + 1) ps s m) ms) f ∙ listing_goes ms m (suc n) (k + 1) (Listed (k + 1)) rs f in
      compared_lines h y n (m ∷ ms) (compare_line n r.written l) p (Listed (k + 1)) _ later

-- ---- the events

module _ (h : Header) where
  pub record EventsRead (ls : List InputLine) : Type 0 where
    pub at_events : (n : ℕ) (y : Machine) → read_lines (reader EventDue h y n) ls ≡ events_verdict n y ls
    pub at_outputs : (n k : ℕ) (o : Output) (y : Machine) → read_lines (reader (Printed k o) h y n) ls ≡ output_verdict n (output_line k o) y ls

  pub events_read : (ls : List InputLine) → EventsRead ls
  unfolding read_lines read_line read_phase read_end read_phase_end read_turn read_listed run_event moved decided printed_for events_verdict
      output_verdict turn_verdict
  events_read [] = record { at_events = λ n y. refl; at_outputs = λ n k o y. refl }
  events_read (l ∷ ls) = go (events_read ls)
    where
      go : EventsRead ls → EventsRead (l ∷ ls)
      go ih =
          record {
            at_events = λ n y. turned n y (turn l);
            at_outputs = λ n k o y.
                compared_lines h y n ls (compare_line n (output_line k o) l) (Printed k o) EventDue (events_verdict (suc n) y ls) (ih.at_events (suc n) y);
          }
        where
          turned : (n : ℕ) (y : Machine) (u : Turn)
              → read_lines (read_turn u (reader EventDue h y n) l) ls
              ≡ turn_verdict u (λ (e : Event). output_verdict (suc n) (printed_for y e) (event y e).machine ls) (listing_verdict n (listing y) (l ∷ ls))
          turned n y (runs e) = ih.at_outputs (suc n) (task_in e) (event y e).out (event y e).machine
          turned n y lists = listing_goes h y ls l n 0 EventDue (listing y) refl
          turned n y gives_10 = stays_decided (Refusal 10) h y n ls

-- ---- the opening

module _ (o : Opened) (h : Header) (n : ℕ) where
  -- a header's last line
  opened_lines : (ls : List InputLine) → read_lines (read_opened o h n (λ s. moved EventDue s.machine s)) ls ≡ opened_verdict o (suc n) ls
  unfolding read_opened moved decided opened_verdict
  opened_lines ls = go (eqb o.refusal 0)
    where
      r : Reader
      r = reader EventDue h o.machine n

      go : (b : Bool) → read_lines (if b then moved EventDue r.machine r else decided (Refusal o.refusal) r) ls
          ≡ (if b then events_verdict (suc n) o.machine ls else Refusal o.refusal)
      go true = (events_read h ls).at_events (suc n) o.machine
      go false = stays_decided (Refusal o.refusal) h o.machine n ls

  -- a line behind the header
  opened_turn : (l : InputLine) (ls : List InputLine) → read_lines (read_opened o h n (λ s. read_turn (turn l) s l)) ls ≡ opened_verdict o n (l ∷ ls)
  unfolding read_opened decided opened_verdict read_lines read_line read_phase
  opened_turn l ls = go (eqb o.refusal 0)
    where
      r : Reader
      r = reader EventDue h o.machine n

      go : (b : Bool) → read_lines (if b then read_turn (turn l) r l else decided (Refusal o.refusal) r) ls
          ≡ (if b then events_verdict n o.machine (l ∷ ls) else Refusal o.refusal)
      go true = (events_read h (l ∷ ls)).at_events n o.machine
      go false = stays_decided (Refusal o.refusal) h o.machine n ls

  -- no line behind the header
  opened_ends : opened_end o ≡ opened_verdict o n []
  unfolding opened_end opened_verdict events_verdict
  opened_ends = refl

-- ---- the header, and the whole

one_more : (n : ℕ) (l : InputLine) (t : HeaderTaken) → header_verdict (suc n) t ≡ header_verdict n (with_line l t)
unfolding header_verdict with_line
one_more n l (taken own h ls) =
    let e : suc n + length own ≡ n + suc (length own) = omega arith in
    ap (λ (m : ℕ). opened_verdict (session_opening h) m ls) e
one_more n l (not_taken r) = refl

no_more : (n : ℕ) (h : Header) (ls : List InputLine) → opened_verdict (session_opening h) n ls ≡ header_verdict n (taken [] h ls)
unfolding header_verdict
no_more n h ls =
    let e : n ≡ n + 0 = omega arith in
    ap (λ (m : ℕ). opened_verdict (session_opening h) m ls) e

header_lines_read : (ls : List InputLine) (due : HeaderLine) (h : Header) (y : Machine) (n : ℕ)
    → read_lines (reader (Due due) h y n) ls ≡ header_verdict n (take_from ls due h)
unfolding read_lines read_line read_phase read_end read_phase_end read_header_line decided take_from after_step header_verdict with_line
header_lines_read [] due h y n = go (optional due)
  where
    go : (b : Bool) → (if b then opened_end (session_opening h) else Refusal 12)
        ≡ header_verdict n (if b then taken [] h [] else not_taken 12)
    go true = opened_ends (session_opening h) h n ∙ no_more n h []
    go false = refl
header_lines_read (l ∷ ls) due h y n = go (λ due' h'. header_lines_read ls due' h' y (suc n)) (header_step due h l)
  where
    go : ((due' : HeaderLine) (h' : Header) → read_lines (reader (Due due') h' y (suc n)) ls ≡ header_verdict (suc n) (take_from ls due' h'))
        → (d : HeaderStep)
        → read_lines (read_header_line d (reader (Due due) h y n) l) ls ≡ header_verdict n (after_step d (λ due' h'. take_from ls due' h') l ls)
    go ih (Next due' h') = ih due' h' ∙ one_more n l (take_from ls due' h')
    go ih (Complete h') = opened_lines (session_opening h') h' n ls ∙ no_more (suc n) h' ls ∙ one_more n l (taken [] h' ls)
    go ih (Absent h') = opened_turn (session_opening h') h' n l ls ∙ no_more n h' (l ∷ ls)
    go ih Missing = stays_decided (Refusal 10) h y n ls

pub reader_gives_verdict : (input : List ℕ) → read_lines new_reader (input_lines input) ≡ verdict input
unfolding new_reader verdict lines_verdict take_header
reader_gives_verdict input = header_lines_read (input_lines input) Tasks empty_header no_machine 1
