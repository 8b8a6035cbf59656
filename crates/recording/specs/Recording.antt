-- What a terminal writes of its shift: `recording`, of a session's whole input. "A terminal is to write its shift as a recording: the
-- session's header lines, then for each event its input line followed by its output line, closed by the final listing." Each line
-- is kept with its role, so that statements can say which line they mean. Assumes nothing.
use Rattle.std.specs.Prelude.{ℕ, List, [], ◌∷◌, ◌++◌, map, eqb, length, replicate, if◌then◌else◌, Ok, Err}
use Rattle.spec.specs.Numbers.{refusal_number}
use Rattle.spec.specs.Outputs.{Output, Listing}
use Rattle.spec.specs.Lists.{concat_map}
use Rattle.spec.specs.Machine.{Machine}
use Rattle.spec.specs.Listed.{listed, head_of, size_of}
use Rattle.spec.specs.Entries.{Opened, list}
use Rattle.spec.specs.Schedule.{Event, Ran, run}
use Rattle.session.specs.Keys.{newline, size_key, tags_key, tag_key}
use Rattle.session.specs.Grammar.{InputLine, input_lines}
use Rattle.session.specs.Print.{key_line, refusal_line, output_line}
use Rattle.session.specs.Transcript.{events, task_in, session_opening}
use Rattle.recording.specs.Header.{HeaderTaken, taken, not_taken, take_header}

-- ---- a recording's lines

pub data Role : Type 0 where
  header_role event_role output_role size_role listing_role : Role

-- a line as it is written, with the byte 10 that closes it
pub record RecordedLine : Type 0 where
  pub role : Role
  pub written : List ℕ

abbrev pub recorded_line : Role → List ℕ → RecordedLine
recorded_line role written = record { role = role; written = written }

-- bytes, and the byte 10 that closes their line
abbrev pub close : List ℕ → List ℕ
close bytes = bytes ++ (newline ∷ [])

-- an input line, written again
unfoldable pub input_again : Role → InputLine → RecordedLine
input_again role l = recorded_line role (close l.bytes)

-- lines, one after the other
unfoldable pub bytes_of : List RecordedLine → List ℕ
bytes_of rs = concat_map (λ (r : RecordedLine). r.written) rs

-- ---- "then for each event its input line followed by its output line"

unfoldable pub event_pairs : List InputLine → List Event → List Output → List RecordedLine
event_pairs [] es os = []
event_pairs (l ∷ ls) [] os = []
event_pairs (l ∷ ls) (e ∷ es) [] = []
event_pairs (l ∷ ls) (e ∷ es) (o ∷ os) =
    input_again event_role l ∷ recorded_line output_role (output_line (task_in e) o) ∷ event_pairs ls es os

-- ---- "closed by the final listing"

unfoldable pub tag_listing : List ℕ → List RecordedLine
tag_listing [] = []
tag_listing (t ∷ ts) = recorded_line listing_role (key_line tag_key t) ∷ tag_listing ts

-- what a session prints at the end of its input (`final_listing`), line by line. From an opening onward a list call is never refused
unfoldable pub listing_of : Machine → Listing → List RecordedLine
listing_of y (Ok n) =
    recorded_line size_role (key_line size_key (size_of y (head_of y)))
    ∷ recorded_line listing_role (key_line tags_key (length (listed y)))
    ∷ tag_listing (listed y)
listing_of y (Err r) = recorded_line listing_role (refusal_line (refusal_number r)) ∷ []

unfoldable pub listing : Machine → List RecordedLine
listing y = listing_of y (list y (replicate 64 0)).says

-- ---- the whole

-- "an input line that gives 10 is left out, and the listing follows at once": `events` are those up to such a line
unfoldable pub ran_recording : List InputLine → Ran → List RecordedLine
ran_recording ls r = event_pairs ls (events ls) r.outs ++ listing r.machine

unfoldable pub recorded_events : Machine → List InputLine → List RecordedLine
recorded_events y ls = ran_recording ls (run y (events ls))

-- "Only yards whose opening is accepted are recorded"
pub data Recorded : Type 0 where
  recorded : List RecordedLine → Recorded
  not_recorded : Recorded

-- "the session's header lines, then .."
unfoldable pub opened_recording : Opened → List InputLine → List InputLine → Recorded
opened_recording o own ls =
    if eqb o.refusal 0 then recorded (map (input_again header_role) own ++ recorded_events o.machine ls) else not_recorded

unfoldable pub header_recording : HeaderTaken → Recorded
header_recording (taken own h ls) = opened_recording (session_opening h) own ls
header_recording (not_taken r) = not_recorded

-- the lines of an input's recording
unfoldable pub recorded_lines : List ℕ → Recorded
recorded_lines input = header_recording (take_header (input_lines input))

unfoldable pub lines_of : Recorded → List RecordedLine
lines_of (recorded rs) = rs
lines_of not_recorded = []

-- what is written: nothing where nothing is recorded, since each recording begins with its header lines
unfoldable pub recording : List ℕ → List ℕ
recording input = bytes_of (lines_of (recorded_lines input))
