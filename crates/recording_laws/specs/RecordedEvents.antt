-- A recording, one event at a time: `none_recorded`, `event_recorded`, `listing_at_once`. A run is its first event and the run after
-- it, and so the definitions compute. Assumes nothing.
use Rattle.std.specs.Prelude.{◌≡◌, refl, List, [], ◌∷◌, Option, None}
use Rattle.spec.specs.Machine.{Machine}
use Rattle.spec.specs.Schedule.{Event, event, run}
use Rattle.session.specs.declared.EventLine.{EventLine}
use Rattle.session.specs.Grammar.{InputLine, parse_event_line}
use Rattle.session.specs.Transcript.{add_event, events}
use Rattle.recording.specs.Recording.{event_role, output_role, recorded_line, input_again, event_pairs, listing, ran_recording, recorded_events}
use Rattle.recording.specs.Verdict.{printed_for}

pub none_recorded : (y : Machine) → recorded_events y [] ≡ listing y
unfolding recorded_events ran_recording events event_pairs run
none_recorded y = refl

module _ (y : Machine) (l : InputLine) (ls : List InputLine) where
  pub event_recorded : (e : Event) (x : Option EventLine) → parse_event_line l ≡ x → add_event x (events ls) ≡ e ∷ events ls
      → recorded_events y (l ∷ ls)
      ≡ input_again event_role l ∷ recorded_line output_role (printed_for y e) ∷ recorded_events (event y e).machine ls
  unfolding recorded_events ran_recording events event_pairs run printed_for
  event_recorded e x p q = rw (p, q)

  -- "an input line that gives 10 is left out, and the listing follows at once"
  pub listing_at_once : parse_event_line l ≡ None → recorded_events y (l ∷ ls) ≡ listing y
  unfolding recorded_events ran_recording events add_event event_pairs run
  listing_at_once p = rw p
