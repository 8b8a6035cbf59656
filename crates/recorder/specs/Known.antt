-- A line that is recorded changes nothing in what is known of memory: `recorded_known`. Assumes nothing.
use Rattle.std.specs.Prelude.{if◌then◌else◌}
use Prim.Native.Nat.{ℕ}
use mathlib.Core.Path.{◌≡◌, refl}
use mathlib.Core.List.{List}
use mathlib.Core.Bool.{Bool, true, false}
use Rattle.spec.specs.declared.State.{State}
use Rattle.spec.specs.Sound.{sound}
use Rattle.session.specs.declared.Header.{Header}
use Rattle.session.specs.declared.HeaderStep.{HeaderStep}
use Rattle.session.specs.declared.HeaderStep.TheVariants.{Next, Complete, Absent, Missing}
use Rattle.session.specs.Grammar.{InputLine, parse_event_line}
use Rattle.session.specs.Header.{header_step}
use Rattle.session.specs.Transcript.{is_event}
use Rattle.session_state.specs.declared.Phase.{Phase}
use Rattle.session_state.specs.declared.Phase.TheVariants.{Due, Events, Stopped}
use Rattle.session_state.specs.declared.Session.{Session}
use Rattle.session_state.specs.Handling.{session, session_machine, pools_kept, stopped, silent, listing_effect, line_effect, phase_end, end_effect}
use Rattle.session_lines.specs.KnownMemory.{Known, KnownIn, KnownAfter, open_known, line_known}
use Rattle.recording.specs.Recording.{close}
use Rattle.recorder_lines.specs.declared.KeptLines.{KeptLines}
use Rattle.recorder.specs.LentRecorder.{after_bytes, recorded_event, first_recorded, recorded_opening, recorded_header, recorded_phase, recorded_line}

module _ (ok : Bool) (l : InputLine) where
  -- where events are read, the end prints the listing, and the session has stopped
  event_known : (h : Header) (m : State) (ns bs : List ℕ) → let s = session Events h m in
      ok ≡ sound (session_machine s ns bs) → KnownAfter ok (recorded_event l s ns bs)
  unfolding recorded_event after_bytes end_effect phase_end listing_effect pools_kept Known
  event_known h m ns bs e = go (is_event (parse_event_line l))
    where
      s : Session
      s = session Events h m

      go : (b : Bool) → KnownAfter ok (if b then after_bytes (close l.bytes) (line_effect s ns bs l) else end_effect s ns bs)
      go true = line_known ok s ns bs l e
      go false = refl

  opening_known : (own : Bool) (h : Header) (k : KeptLines) (ns bs : List ℕ) → ok ≡ true → KnownAfter ok (recorded_opening h k own l ns bs)
  unfolding recorded_opening first_recorded after_bytes silent pools_kept Known
  opening_known true h k ns bs e = open_known ok h ns bs _ (λ m w v f. f) e
  opening_known false h k ns bs e = open_known ok h ns bs _ (λ m w v f. event_known h m w v f) e

  header_known : (a : HeaderStep) (k : KeptLines) (s : Session) (ns bs : List ℕ) → ok ≡ true → KnownAfter ok (recorded_header a k l s ns bs)
  unfolding recorded_header pools_kept stopped Known
  header_known (Next due h) k s ns bs e = e
  header_known (Complete h) k s ns bs e = opening_known true h k ns bs e
  header_known (Absent h) k s ns bs e = opening_known false h k ns bs e
  header_known Missing k s ns bs e = refl

  phase_known : (p : Phase) (k : KeptLines) (h : Header) (m : State) (ns bs : List ℕ) → KnownIn ok (session p h m) ns bs
      → KnownAfter ok (recorded_phase p k l (session p h m) ns bs)
  unfolding recorded_phase silent pools_kept Known
  phase_known (Due due) k h m ns bs e = header_known (header_step due h l) k (session (Due due) h m) ns bs e
  phase_known Events k h m ns bs e = event_known h m ns bs e
  phase_known Stopped k h m ns bs e = refl

  pub recorded_known : (k : KeptLines) (s : Session) (ns bs : List ℕ) → KnownIn ok s ns bs → KnownAfter ok (recorded_line l k s ns bs)
  unfolding recorded_line
  recorded_known k s ns bs e = phase_known s.phase k s.header s.state ns bs e
