-- The recorder over lent pools: what a line and the end of the input do, and what is written for them. These are the definitions that the code
-- is held to; that they write the recording is shown in WritesRecording. Assumes nothing.
use Rattle.std.specs.Prelude.{ℕ, List, [], ◌∷◌, ◌++◌, Bool, true, false, if◌then◌else◌}
use Rattle.session.specs.declared.Header.{Header}
use Rattle.session.specs.declared.HeaderStep.{HeaderStep}
use Rattle.session.specs.declared.HeaderStep.TheVariants.{Next, Complete, Absent, Missing}
use Rattle.session.specs.Grammar.{InputLine, closed_line, parse_event_line}
use Rattle.session.specs.Header.{optional, header_step}
use Rattle.session.specs.Transcript.{is_event}
use Rattle.session_state.specs.declared.Phase.{Phase}
use Rattle.session_state.specs.declared.Phase.TheVariants.{Due, Events, Stopped}
use Rattle.session_state.specs.declared.Session.{Session}
use Rattle.session_state.specs.Handling.{session, new_session, LineEffect, pools_kept, stopped, silent, open_then, line_effect, end_effect}
use Rattle.recording.specs.Recording.{close}
use Rattle.recorder_lines.specs.declared.KeptLines.{KeptLines}
use Rattle.recorder.specs.declared.Recorder.{Recorder}
use Rattle.recorder_lines.specs.KeptLines.{no_lines, kept_bytes, kept_after}

-- ---- what a line does to the session and its pools, and what is written for it in the place of what the session prints

-- these bytes, and then what an effect prints
unfoldable pub after_bytes : List ℕ → LineEffect → LineEffect
after_bytes bytes d = record { session = d.session; nodes = d.nodes; buckets = d.buckets; prints = bytes ++ d.prints }

-- "for each event its input line followed by its output line"; "an input line that gives 10 is left out, and the listing follows at
-- once": what the session prints at the end of its input
unfoldable pub recorded_event : InputLine → Session → List ℕ → List ℕ → LineEffect
recorded_event l s ns bs =
    if is_event (parse_event_line l) then after_bytes (close l.bytes) (line_effect s ns bs l) else end_effect s ns bs

-- the first line after the kept ones: the header's own last line, or a line that is read as an event's
unfoldable pub first_recorded : Bool → InputLine → Session → List ℕ → List ℕ → LineEffect
first_recorded own l s ns bs = if own then after_bytes (close l.bytes) (silent s ns bs) else recorded_event l s ns bs

-- "Only yards whose opening is accepted are recorded": then "the session's header lines", else the refusal
unfoldable pub recorded_opening : Header → KeptLines → Bool → InputLine → List ℕ → List ℕ → LineEffect
recorded_opening h k own l ns bs = open_then h ns bs (λ s n b. after_bytes (kept_bytes k) (first_recorded own l s n b))

-- what a line says where a header line is due
unfoldable pub recorded_header : HeaderStep → KeptLines → InputLine → Session → List ℕ → List ℕ → LineEffect
recorded_header (Next due h) k l s ns bs = pools_kept (record { session = session (Due due) h s.state; prints = [] }) ns bs
recorded_header (Complete h) k l s ns bs = recorded_opening h k true l ns bs
recorded_header (Absent h) k l s ns bs = recorded_opening h k false l ns bs
recorded_header Missing k l s ns bs = pools_kept (stopped s 10) ns bs

-- by where the session stands
unfoldable pub recorded_phase : Phase → KeptLines → InputLine → Session → List ℕ → List ℕ → LineEffect
recorded_phase (Due due) k l s ns bs = recorded_header (header_step due s.header l) k l s ns bs
recorded_phase Events k l s ns bs = recorded_event l s ns bs
recorded_phase Stopped k l s ns bs = silent s ns bs

unfoldable pub recorded_line : InputLine → KeptLines → Session → List ℕ → List ℕ → LineEffect
recorded_line l k s ns bs = recorded_phase s.phase k l s ns bs

-- "closed by the final listing", where the opening is accepted; else the session's refusal
unfoldable pub recorded_end : Phase → KeptLines → Session → List ℕ → List ℕ → LineEffect
recorded_end (Due due) k s ns bs =
    if optional due then open_then s.header ns bs (λ s' n b. after_bytes (kept_bytes k) (end_effect s' n b))
    else pools_kept (stopped s 10) ns bs
recorded_end Events k s ns bs = end_effect s ns bs
recorded_end Stopped k s ns bs = silent s ns bs

-- ---- the recorder between two lines

abbrev pub recorder : Session → KeptLines → Recorder
recorder s k = record { session = s; kept = k }

unfoldable pub new_recorder : Recorder
new_recorder = recorder new_session no_lines

-- where it stands, and what the lent pools hold
pub record Lent : Type 0 where
  pub recorder : Recorder
  pub nodes : List ℕ
  pub buckets : List ℕ

abbrev pub lent : Recorder → List ℕ → List ℕ → Lent
lent r ns bs = record { recorder = r; nodes = ns; buckets = bs }

-- ---- what a line does, and the end of the input

abbrev pub line_of : Lent → InputLine → LineEffect
line_of s l = recorded_line l s.recorder.kept s.recorder.session s.nodes s.buckets

abbrev pub end_of : Lent → LineEffect
end_of s = recorded_end s.recorder.session.phase s.recorder.kept s.recorder.session s.nodes s.buckets

unfoldable pub after_line : Lent → InputLine → Lent
after_line s l =
    let d = line_of s l in
    lent (recorder d.session (kept_after s.recorder.session.phase s.recorder.kept l.bytes)) d.nodes d.buckets

-- what is written if these lines follow
unfoldable pub recorded_from : Lent → List InputLine → List ℕ
recorded_from s [] = (end_of s).prints
recorded_from s (l ∷ ls) = (line_of s l).prints ++ recorded_from (after_line s l) ls

-- the bytes of one closed line
unfoldable pub take_line : Lent → List ℕ → Lent
take_line s line = after_line s (closed_line line)

unfoldable pub line_prints : Lent → List ℕ → List ℕ
line_prints s line = (line_of s (closed_line line)).prints
