-- What a reader of recordings answers to any bytes: `verdict`. "A reader of recordings runs the events afresh and gives "same", or
-- the number, from 1, of the first line that is not what the machine prints." The lines are judged in order and the first that fails
-- gives the answer, so "of a difference, a 10 and a 12 the earliest line decides"; a line is asked first whether it is closed, so "on
-- one line 10 goes before a difference". Assumes nothing.
use Rattle.std.specs.Prelude.{ℕ, suc, ◌+◌, List, [], ◌∷◌, not, eqb, length, if◌then◌else◌, Option, Some, None}
use Rattle.spec.specs.Machine.{Machine}
use Rattle.spec.specs.Entries.{Opened}
use Rattle.spec.specs.Schedule.{Event, starts, steps, event}
use Rattle.session.specs.declared.EventLine.{EventLine}
use Rattle.session.specs.declared.EventLine.TheVariants.{Start, Step}
use Rattle.session.specs.Keys.{size_key}
use Rattle.session.specs.Grammar.{InputLine, input_lines, starts_with, equals, parse_event_line}
use Rattle.session.specs.Print.{output_line}
use Rattle.session.specs.Transcript.{task_in, session_opening}
use Rattle.recording.specs.declared.Verdict.{Verdict}
use Rattle.recording.specs.declared.Verdict.TheVariants.{Same, Differs, Refusal}
use Rattle.recording.specs.Header.{HeaderTaken, taken, not_taken, take_header}
use Rattle.recording.specs.Recording.{RecordedLine, close, listing}

-- ---- one line

-- "Output and listing lines are only compared; 10 is .. for a line not closed": line n, where the machine prints `printed`
pub data Compared : Type 0 where
  as_printed : Compared
  fails : Verdict → Compared

unfoldable pub compare_line : ℕ → List ℕ → InputLine → Compared
compare_line n printed l =
    if not l.closed then fails (Refusal 10)
    else if equals printed (close l.bytes) then as_printed
    else fails (Differs n)

-- "A line past the listing counts as differing."
unfoldable pub past_listing : ℕ → InputLine → Verdict
past_listing n l = if not l.closed then Refusal 10 else Differs n

-- "The listing begins at the first event's turn whose line starts with `size=`"; "10 is for header and event lines and for a line
-- not closed"
pub data Turn : Type 0 where
  runs : Event → Turn
  lists : Turn
  gives_10 : Turn

unfoldable pub event_turn : Option EventLine → Turn
event_turn (Some (Start k call tag)) = runs (starts k call tag)
event_turn (Some (Step k)) = runs (steps k)
event_turn None = gives_10

unfoldable pub turn : InputLine → Turn
turn l =
    if not l.closed then gives_10
    else if starts_with size_key l.bytes then lists
    else event_turn (parse_event_line l)

-- what machine y prints for an event
unfoldable pub printed_for : Machine → Event → List ℕ
printed_for y e = output_line (task_in e) (event y e).out

-- ---- the lines from line n on; "Refused: 12, a line missing where the pattern needs one"

-- what a line and the ones after it give
unfoldable pub then_rest : Compared → Verdict → Verdict
then_rest as_printed rest = rest
then_rest (fails v) rest = v

-- the listing, of which these lines are still to come
unfoldable pub listing_verdict : ℕ → List RecordedLine → List InputLine → Verdict
listing_verdict n [] [] = Same
listing_verdict n [] (l ∷ ls) = past_listing n l
listing_verdict n (r ∷ rs) [] = Refusal 12
listing_verdict n (r ∷ rs) (l ∷ ls) =
    let rest = listing_verdict (suc n) rs ls in
    then_rest (compare_line n r.written l) rest

-- what an event's turn gives: the lines after the event decide, or the listing
unfoldable pub turn_verdict : Turn → (Event → Verdict) → Verdict → Verdict
turn_verdict (runs e) after_event at-listing = after_event e
turn_verdict lists after_event at-listing = at-listing
turn_verdict gives_10 after_event at-listing = Refusal 10

unfoldable mutual
  -- an event's turn
  pub events_verdict : ℕ → Machine → List InputLine → Verdict
  events_verdict n y [] = Refusal 12
  events_verdict n y (l ∷ ls) =
      turn_verdict (turn l) (λ e. output_verdict (suc n) (printed_for y e) (event y e).machine ls) (listing_verdict n (listing y) (l ∷ ls))

  -- its output line's turn
  pub output_verdict : ℕ → List ℕ → Machine → List InputLine → Verdict
  output_verdict n printed y [] = Refusal 12
  output_verdict n printed y (l ∷ ls) =
      let rest = events_verdict (suc n) y ls in
      then_rest (compare_line n printed l) rest

-- ---- the whole

-- "A header that the opening refuses gives that refusal": before any line after the header
unfoldable pub opened_verdict : Opened → ℕ → List InputLine → Verdict
opened_verdict o n ls = if eqb o.refusal 0 then events_verdict n o.machine ls else Refusal o.refusal

-- the header's first line is line n
unfoldable pub header_verdict : ℕ → HeaderTaken → Verdict
header_verdict n (taken own h ls) = opened_verdict (session_opening h) (n + length own) ls
header_verdict n (not_taken r) = Refusal r

-- of these lines, and of these bytes
unfoldable pub lines_verdict : List InputLine → Verdict
lines_verdict ls = header_verdict 1 (take_header ls)

unfoldable pub verdict : List ℕ → Verdict
verdict input = lines_verdict (input_lines input)
