-- What rests on statements of specs/RecordingRead.antt that a must-fail edit makes false: theorems moved from there as they stood. Assumes nothing.
use Rattle.std.specs.Prelude.{◌≡◌, refl, List, [], ◌∷◌, ◌++◌, true, ℕ, suc, drop, replicate, Option, Some, None, Ok}
use Rattle.std.proofs.Common.{ap, ◌∙◌}
use Rattle.spec.specs.Lists.{every}
use Rattle.spec.specs.Machine.{Machine}
use Rattle.spec.specs.Listed.{head_of, size_of}
use Rattle.spec.specs.Entries.{list}
use Rattle.spec.specs.Schedule.{Event, starts, steps, event, run}
use Rattle.laws.specs.Tests.{and2}
use Rattle.session.specs.declared.EventLine.{EventLine}
use Rattle.session.specs.declared.EventLine.TheVariants.{Start, Step}
use Rattle.session.specs.declared.Header.{Header}
use Rattle.session.specs.Keys.{size_key}
use Rattle.session.specs.Grammar.{InputLine, closed_line, starts_with, input_lines, parse_event_line}
use Rattle.session.specs.Print.{key_line}
use Rattle.session.specs.Transcript.{task_in, add_event, events, is_event}
use Rattle.recording.specs.declared.ReaderPhase.TheVariants.{Event as EventDue}
use Rattle.recording_laws.specs.HeaderAgain.{same_line, size_line}
use Rattle.recording_laws.specs.ListingLines.{size_first}
use Rattle.recording.specs.Recording.{event_role, size_role, RecordedLine, recorded_line, input_again, listing, recorded_events}
use Rattle.recording_laws.specs.RecordedEvents.{none_recorded, event_recorded, listing_at_once}
use Rattle.recording.specs.Verdict.{runs, event_turn, printed_for}
use Rattle.recording.specs.Reader.{reader}
use Rattle.recording_laws.specs.ClosedLines.{without_newline, plain_line, first_line}
use Rattle.recording_laws.specs.PrintedLines.{key_closed, key_closed_line}
use Rattle.recording_laws.specs.EventTurns.{event_turned}
use Rattle.recording_laws.specs.Awaited.{event_awaited, output_awaited, listing_read}
use Rattle.recording_laws.specs.ReadToEnd.{only_compared, ReadToEnd, after_line}
use Rattle.recording_laws.specs.RecordingRead.{AlwaysLists, Begins}

-- ---- the events

pub events_read : (ls : List InputLine) → every plain_line ls ≡ true → (y : Machine) → AlwaysLists y → (h : Header) (n : ℕ)
    → ReadToEnd (reader EventDue h y n) (recorded_events y ls)
unfolding every plain_line run printed_for is_event event_turn add_event
events_read [] p y a h n =
    let c = a.counts [] in
    rw (none_recorded y) (listing_read h y n c.0 c.1)
events_read (l ∷ ls) p y a h n =
    go (λ e. events_read ls q.1 (event y e).machine (record { counts = λ es. a.counts (e ∷ es) }) h (suc (suc n))) (parse_event_line l) refl
  where
    q : (plain_line l ≡ true) × (every plain_line ls ≡ true)
    q = and2 (plain_line l) (every plain_line ls) p

    pair : (e : Event) (x : Option EventLine) → parse_event_line l ≡ x → is_event x ≡ true → event_turn x ≡ runs e → add_event x (events ls) ≡ e ∷ events ls
        → ReadToEnd (reader EventDue h (event y e).machine (suc (suc n))) (recorded_events (event y e).machine ls)
        → ReadToEnd (reader EventDue h y n) (recorded_events y (l ∷ ls))
    pair e x r i u f rest =
        let t = event_turned l x r i in
        rw (event_recorded y l ls e x r f)
        (after_line (event_awaited h y n l e q.0 t.closed (t.turned ∙ u))
        (after_line (output_awaited h (event y e).machine (suc n) (task_in e) (event y e).out) rest))

    go : ((e : Event) → ReadToEnd (reader EventDue h (event y e).machine (suc (suc n))) (recorded_events (event y e).machine ls))
        → (x : Option EventLine) → parse_event_line l ≡ x → ReadToEnd (reader EventDue h y n) (recorded_events y (l ∷ ls))
    go ih (Some (Start k call tag)) r = pair (starts k call tag) (Some (Start k call tag)) r refl refl refl (ih (starts k call tag))
    go ih (Some (Step k)) r = pair (steps k) (Some (Step k)) r refl refl refl (ih (steps k))
    go ih None r =
        let c = a.counts [] in
        rw (listing_at_once y l ls r) (listing_read h y n c.0 c.1)

size_begins : (ls : List InputLine) (y : Machine) (n : ℕ) → (list y (replicate 64 0)).says ≡ Ok n → Begins ls (listing y)
unfolding only_compared without_newline every starts_with
size_begins ls y n e =
    let v = size_of y (head_of y) in
    let c = key_closed size_key v refl in
    let line = key_closed_line size_key v refl in
    record {
      first = recorded_line size_role (key_line size_key v);
      later = drop 1 (listing y);
      joined = size_first y n e;
      not_compared = refl;
      behind = λ rest.
          rw (ap (λ (b : List ℕ). input_lines (b ++ rest)) c.closed ∙ first_line c.line rest c.plain)
          (size_line (ap (starts_with size_key) line));
    }

event_begins : (l : InputLine) (ls : List InputLine) (later : List RecordedLine) → without_newline l.bytes ≡ true → closed_line l.bytes ≡ l
    → Begins (l ∷ ls) (input_again event_role l ∷ later)
unfolding only_compared input_again
event_begins l ls later p c =
    record {
      first = input_again event_role l;
      later = later;
      joined = refl;
      not_compared = refl;
      behind = λ rest. rw (first_line l.bytes rest p ∙ ap (λ (m : InputLine). m ∷ input_lines rest) c) (same_line refl);
    }

pub events_begin : (ls : List InputLine) → every plain_line ls ≡ true → (y : Machine) → AlwaysLists y → Begins ls (recorded_events y ls)
unfolding every plain_line run is_event add_event
events_begin [] p y a =
    let c = a.counts [] in
    rw (none_recorded y) (size_begins [] y c.0 c.1)
events_begin (l ∷ ls) p y a = go (parse_event_line l) refl
  where
    pair : (e : Event) (x : Option EventLine) → parse_event_line l ≡ x → is_event x ≡ true → add_event x (events ls) ≡ e ∷ events ls
        → Begins (l ∷ ls) (recorded_events y (l ∷ ls))
    pair e x r i f =
        rw (event_recorded y l ls e x r f)
        (event_begins l ls _ (and2 (plain_line l) (every plain_line ls) p).0 (event_turned l x r i).closed)

    go : (x : Option EventLine) → parse_event_line l ≡ x → Begins (l ∷ ls) (recorded_events y (l ∷ ls))
    go (Some (Start k call tag)) r = pair (starts k call tag) (Some (Start k call tag)) r refl refl
    go (Some (Step k)) r = pair (steps k) (Some (Step k)) r refl refl
    go None r =
        let c = a.counts [] in
        rw (listing_at_once y l ls r) (size_begins (l ∷ ls) y c.0 c.1)
