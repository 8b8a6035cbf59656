-- The reader says "same" of recordings alone: `same_is_recorded`, bytes that give "same" are what a terminal writes for some session's
-- input. That input is the header lines and the event lines in them; the lines between were compared with what the machine prints.
-- Assumes nothing.
use Rattle.std.specs.Prelude.{◌≡◌, refl, Bool, true, false, not, ℕ, suc, ◌+◌, eqb, length, if◌then◌else◌, Option, Some, None}
use Rattle.std.proofs.Common.{sym, ◌∙◌, arith}
use Rattle.std.proofs.Math.Path.{ap, subst}
use mathlib.Core.List.{List, [], ◌∷◌, ◌++◌, map, append-nil}
use borrow.Author.Tests.{eq-eqb, eqb-true}
use Rattle.std.proofs.Math.Seq.{append_snoc}
use Rattle.spec.specs.Lists.{every, concat_map}
use Rattle.spec.specs.Machine.{Machine}
use Rattle.spec.specs.Schedule.{Event, starts, steps, event}
use Rattle.laws.specs.Tests.{tf, and2}
use Rattle.session.specs.declared.EventLine.{EventLine}
use Rattle.session.specs.declared.EventLine.TheVariants.{Start, Step}
use Rattle.session.specs.declared.Header.{Header}
use Rattle.session.specs.declared.HeaderLine.TheVariants.{Tasks}
use Rattle.session.specs.Keys.{newline, size_key}
use Rattle.session.specs.Grammar.{InputLine, closed_line, open_line, split_lines, input_lines, starts_with, parse_event_line}
use Rattle.session.specs.Header.{empty_header}
use Rattle.session.specs.Transcript.{add_event, events, session_opening}
use Rattle.recording.specs.declared.Verdict.{Verdict}
use Rattle.recording.specs.declared.Verdict.TheVariants.{Same, Differs, Refusal}
use Rattle.recording_laws.specs.ClosedLines.{Clean, none_clean, line_clean, again, lines_again, plain_line}
use Rattle.recording_laws.specs.Comparing.{CompareView, unclosed, the_line, other, compare_view}
use Rattle.recording.specs.Header.{HeaderTaken, taken, take_header}
use Rattle.recording_laws.specs.HeaderAgain.{Behind, no_line, same_line, HeaderAgain, TakenAs, is_taken, is_none, header_again}
use Rattle.recording_laws.specs.HeaderLaws.{session_header, as_session}
use Rattle.recording.specs.Recording.{header_role, output_role, RecordedLine, recorded_line, close, input_again, bytes_of, listing, recorded_events}
use Rattle.recording.specs.Recording.{opened_recording, header_recording, recorded_lines, lines_of, recording}
use Rattle.recording_laws.specs.RecordedEvents.{none_recorded, event_recorded}
use Rattle.recording.specs.Verdict.{Compared, compare_line, past_listing, Turn, runs, lists, gives_10, event_turn, turn, printed_for, then_rest}
use Rattle.recording.specs.Verdict.{listing_verdict, turn_verdict, events_verdict, output_verdict, opened_verdict, header_verdict, lines_verdict, verdict}
use Rattle.recording_laws.specs.Theorems.{Accepted}

-- ---- lines, and what they are written as

data WrittenAs : List InputLine → List RecordedLine → Type 0 where
  none_written : WrittenAs [] []
  line_written : {l : InputLine} {ls : List InputLine} {r : RecordedLine} {rs : List RecordedLine}
      → l.closed ≡ true → close l.bytes ≡ r.written → WrittenAs ls rs → WrittenAs (l ∷ ls) (r ∷ rs)

not_same : {m : ℕ} → ¬ (Refusal m ≡ Same)
not_same e = let z : ◌≡◌ {A = ℕ} 0 1 = cc in omega arith

no_number_same : {m : ℕ} → ¬ (Differs m ≡ Same)
no_number_same e = let z : ◌≡◌ {A = ℕ} 0 1 = cc in omega arith

-- a line that is compared with what is printed, and the lines after it
compared_written : (n : ℕ) (printed : List ℕ) (l : InputLine) (rest : Verdict) → then_rest (compare_line n printed l) rest ≡ Same
    → (l.closed ≡ true) × (close l.bytes ≡ printed) × (rest ≡ Same)
unfolding then_rest
compared_written n printed l rest e = go (compare_line n printed l) (compare_view n printed l) e
  where
    go : (c : Compared) → CompareView n printed l c → then_rest c rest ≡ Same → (l.closed ≡ true) × (close l.bytes ≡ printed) × (rest ≡ Same)
    go c (unclosed p) f = absurd (not_same f)
    go c (the_line p q) f = (p, q, f)
    go c (other p q) f = absurd (no_number_same f)

listing_written : (ls : List InputLine) (n : ℕ) (rs : List RecordedLine) → listing_verdict n rs ls ≡ Same → WrittenAs ls rs
unfolding listing_verdict past_listing
listing_written [] n [] e = none_written
listing_written [] n (r ∷ rs) e = absurd (not_same e)
listing_written (l ∷ ls) n [] e = absurd (go l.closed e)
  where
    go : (a : Bool) → (if not a then Refusal 10 else Differs n) ≡ Same → ⊥
    go true f = no_number_same f
    go false f = not_same f
listing_written (l ∷ ls) n (r ∷ rs) e =
    let c = compared_written n r.written l (listing_verdict (suc n) rs ls) e in
    line_written c.0 c.1 (listing_written ls (suc n) rs c.2)

header_written : {ls : List InputLine} → Clean ls → {ms : List InputLine} {rs : List RecordedLine} → WrittenAs ms rs
    → WrittenAs (ls ++ ms) (map (input_again header_role) ls ++ rs)
unfolding input_again
header_written none_clean w = w
header_written (line_clean c p q) w = line_written c refl (header_written q w)

-- the bytes of lines that are written
bytes_written : (xs begun : List ℕ) (rs : List RecordedLine) → WrittenAs (split_lines begun xs) rs → begun ++ xs ≡ bytes_of rs
unfolding split_lines bytes_of concat_map
bytes_written [] begun rs w = go (eqb (length begun) 0) refl rs w
  where
    no_bytes : (s : List ℕ) → length s ≡ 0 → s ≡ []
    no_bytes [] e = refl
    no_bytes (x ∷ s) e = absurd (omega arith)

    go : (b : Bool) → eqb (length begun) 0 ≡ b → (qs : List RecordedLine) → WrittenAs (if b then [] else (open_line begun ∷ [])) qs → begun ++ [] ≡ bytes_of qs
    go true e qs none_written = append-nil begun ∙ no_bytes begun (eqb-true _ _ e)
    go false e qs (line_written c p q) = absurd (tf c refl)
bytes_written (x ∷ xs) begun rs w = go (eqb x newline) refl (λ b qs v. bytes_written xs b qs v) rs w
  where
    go : (b : Bool) → eqb x newline ≡ b → ((b' : List ℕ) (qs : List RecordedLine) → WrittenAs (split_lines b' xs) qs → b' ++ xs ≡ bytes_of qs)
        → (ps : List RecordedLine) → WrittenAs (if b then (closed_line begun ∷ split_lines [] xs) else split_lines (begun ++ (x ∷ [])) xs) ps
        → begun ++ x ∷ xs ≡ bytes_of ps
    go true e ih ps (line_written {r = r} {rs = qs} c p q) =
        let n : x ≡ newline = eqb-true x newline e in
        ap (λ (m : ℕ). begun ++ m ∷ xs) n
        ∙ sym (append_snoc begun newline xs)
        ∙ ap (λ (s : List ℕ). s ++ xs) p
        ∙ ap (λ (s : List ℕ). r.written ++ s) (ih [] qs q)
    go false e ih ps v = sym (append_snoc begun x xs) ∙ ih (begun ++ (x ∷ [])) ps v

-- ---- the events

-- the event lines in what gives "same", of which it is the recording
record FromEvents (y : Machine) (ls : List InputLine) : Type 0 where
  inputs : List InputLine
  clean : Clean inputs
  behind : Behind ls inputs
  written : WrittenAs ls (recorded_events y inputs)

record FromOutput (printed : List ℕ) (y : Machine) (ls : List InputLine) : Type 0 where
  inputs : List InputLine
  clean : Clean inputs
  written : WrittenAs ls (recorded_line output_role printed ∷ recorded_events y inputs)

turn_runs : (l : InputLine) (e : Event) → turn l ≡ runs e → (l.closed ≡ true) × (event_turn (parse_event_line l) ≡ runs e)
unfolding turn
turn_runs l e p = go l.closed (starts_with size_key l.bytes) refl p
  where
    go : (a b : Bool) → l.closed ≡ a → (if not a then gives_10 else if b then lists else event_turn (parse_event_line l)) ≡ runs e
        → (l.closed ≡ true) × (event_turn (parse_event_line l) ≡ runs e)
    go true true q f = let z : ◌≡◌ {A = ℕ} 0 1 = cc in absurd (omega arith)
    go true false q f = (q, f)
    go false b q f = let z : ◌≡◌ {A = ℕ} 0 1 = cc in absurd (omega arith)

event_added : (x : Option EventLine) (e : Event) (es : List Event) → event_turn x ≡ runs e → add_event x es ≡ e ∷ es
unfolding event_turn add_event
event_added (Some (Start k call tag)) e es p = let q : starts k call tag ≡ e = cc in ap (λ (f : Event). f ∷ es) q
event_added (Some (Step k)) e es p = let q : steps k ≡ e = cc in ap (λ (f : Event). f ∷ es) q
event_added None e es p = let z : ◌≡◌ {A = ℕ} 0 1 = cc in absurd (omega arith)

record SameFrom (ls : List InputLine) : Type 0 where
  at_events : (n : ℕ) (y : Machine) → events_verdict n y ls ≡ Same → FromEvents y ls
  at_outputs : (n : ℕ) (printed : List ℕ) (y : Machine) → output_verdict n printed y ls ≡ Same → FromOutput printed y ls

same_from : (ls : List InputLine) → every plain_line ls ≡ true → SameFrom ls
unfolding events_verdict output_verdict turn_verdict every plain_line input_again
same_from [] p = record { at_events = λ n y e. absurd (not_same e); at_outputs = λ n printed y e. absurd (not_same e) }
same_from (l ∷ ls) p = go (same_from ls q.1)
  where
    q : (plain_line l ≡ true) × (every plain_line ls ≡ true)
    q = and2 (plain_line l) (every plain_line ls) p

    go : SameFrom ls → SameFrom (l ∷ ls)
    go ih =
        record {
          at_events = λ n y e. turned n y (turn l) refl e;
          at_outputs = λ n printed y e.
              let c = compared_written n printed l (events_verdict (suc n) y ls) e in
              let f = ih.at_events (suc n) y c.2 in
              record { inputs = f.inputs; clean = f.clean; written = line_written c.0 c.1 f.written };
        }
      where
        turned : (n : ℕ) (y : Machine) (u : Turn) → turn l ≡ u
            → turn_verdict u (λ (e : Event). output_verdict (suc n) (printed_for y e) (event y e).machine ls) (listing_verdict n (listing y) (l ∷ ls)) ≡ Same
            → FromEvents y (l ∷ ls)
        turned n y (runs e) t f =
            let h = turn_runs l e t in
            let o = ih.at_outputs (suc n) (printed_for y e) (event y e).machine f in
            let r = event_recorded y l o.inputs e (parse_event_line l) refl (event_added (parse_event_line l) e (events o.inputs) h.1) in
            record {
              inputs = l ∷ o.inputs;
              clean = line_clean h.0 q.0 o.clean;
              behind = same_line refl;
              written = rw r (line_written h.0 refl o.written);
            }
        turned n y lists t f =
            record { inputs = []; clean = none_clean; behind = no_line; written = rw (none_recorded y) (listing_written (l ∷ ls) n (listing y) f) }
        turned n y gives_10 t f = absurd (not_same f)

-- ---- the whole

-- what it is the recording of, and that
pub record RecordedAs (bytes : List ℕ) : Type 0 where
  pub input : List ℕ
  pub accepted : Accepted input
  pub is_recording : recording input ≡ bytes

module _ (bytes : List ℕ) (own : List InputLine) (h : Header) (rest : List InputLine) (k : HeaderAgain (input_lines bytes) Tasks empty_header own h rest)
    (ok : (session_opening h).refusal ≡ 0) (f : FromEvents (session_opening h).machine rest) where
  -- the header lines and the event lines
  abbrev its_input : List ℕ
  its_input = again header_role own ++ again header_role f.inputs

  its_header : take_header (input_lines its_input) ≡ taken own h f.inputs
  unfolding take_header input_lines split_lines
  its_header =
      let inputs = f.inputs in
      let a = again header_role inputs in
      let b : input_lines a ≡ inputs = ap input_lines (sym (append-nil a)) ∙ lines_again header_role f.clean [] ∙ append-nil inputs in
      ap take_header (lines_again header_role k.clean a ∙ ap (λ (ms : List InputLine). own ++ ms) b) ∙ k.again inputs f.behind

  its_recording : recording its_input ≡ bytes
  unfolding recording recorded_lines header_recording opened_recording lines_of input_lines
  its_recording =
      let rs = map (input_again header_role) own ++ recorded_events (session_opening h).machine f.inputs in
      let w : WrittenAs (input_lines bytes) rs = subst (λ (ls : List InputLine). WrittenAs ls rs) (sym k.joined) (header_written k.clean f.written) in
      rw (its_header, eq-eqb _ _ ok) (sym (bytes_written bytes [] rs w))

  recorded_as : RecordedAs bytes
  unfolding session_header
  recorded_as =
      record {
        input = its_input;
        accepted = record { header = h; rest = f.inputs; read = as_session (input_lines its_input) ∙ ap session_header its_header; accepted = ok };
        is_recording = its_recording;
      }

pub same_is_recorded : (bytes : List ℕ) → verdict bytes ≡ Same → RecordedAs bytes
unfolding verdict lines_verdict header_verdict opened_verdict
same_is_recorded bytes e = go (take_header (input_lines bytes)) (header_again bytes) e
  where
    go : (t : HeaderTaken) → TakenAs (input_lines bytes) Tasks empty_header t → header_verdict 1 t ≡ Same → RecordedAs bytes
    go t (is_taken {own = own} {h' = h} {rest = rest} k) q = opened (eqb (session_opening h).refusal 0) refl q
      where
        opened : (b : Bool) → eqb (session_opening h).refusal 0 ≡ b
            → (if b then events_verdict (1 + length own) (session_opening h).machine rest else Refusal (session_opening h).refusal) ≡ Same → RecordedAs bytes
        opened true a v = recorded_as bytes own h rest k (eqb-true _ _ a) ((same_from rest k.plain).at_events (1 + length own) (session_opening h).machine v)
        opened false a v = absurd (not_same v)
    go t is_none q = absurd (not_same q)
