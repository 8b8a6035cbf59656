-- What a session prints for an input, whole: `transcript`. The header is read, its numbers open the machine, the lines after it
-- are a schedule, and the outputs of its run are printed, then the final listing. Assumes nothing.
use Rattle.std.specs.Prelude.{ℕ, ◌*◌, List, [], ◌∷◌, ◌++◌, Bool, true, false, ◌&&◌, eqb, replicate, if◌then◌else◌, Option, Some, None, Ok, Err}
use Rattle.spec.specs.Numbers.{refusal_number}
use Rattle.spec.specs.Outputs.{Output, Listing}
use Rattle.spec.specs.Machine.{Machine}
use Rattle.spec.specs.Sound.{within}
use Rattle.spec.specs.Listed.{listed, head_of, size_of}
use Rattle.spec.specs.Entries.{Opened, opening, list}
use Rattle.spec.specs.Schedule.{Event, starts, steps, Ran, run}
use Rattle.session.specs.declared.EventLine.{EventLine}
use Rattle.session.specs.declared.EventLine.TheVariants.{Start, Step}
use Rattle.session.specs.declared.Header.{Header}
use Rattle.session.specs.Grammar.{InputLine, input_lines, parse_event_line}
use Rattle.session.specs.Header.{HeaderRead, complete, incomplete, read_header}
use Rattle.session.specs.Print.{refusal_line, output_line, listing_lines}

-- ---- the events

-- the events that lines ask for, up to a line outside the grammar
unfoldable pub add_event : Option EventLine → List Event → List Event
add_event (Some (Start k call tag)) es = starts k call tag ∷ es
add_event (Some (Step k)) es = steps k ∷ es
add_event None es = []

unfoldable pub events : List InputLine → List Event
events [] = []
events (l ∷ ls) = add_event (parse_event_line l) (events ls)

-- no line is outside the grammar
unfoldable pub is_event : Option EventLine → Bool
is_event (Some (Start k call tag)) = true
is_event (Some (Step k)) = true
is_event None = false

unfoldable pub all_events : List InputLine → Bool
all_events [] = true
all_events (l ∷ ls) = is_event (parse_event_line l) && all_events ls

-- "It prints `at=task,next line`, or `end=task,answer,own steps`, or `refuse=number`": a line for each event
unfoldable pub task_in : Event → ℕ
task_in (starts k call tag) = k
task_in (steps k) = k

unfoldable pub output_lines : List Event → List Output → List ℕ
output_lines [] os = []
output_lines (e ∷ es) [] = []
output_lines (e ∷ es) (o ∷ os) = output_line (task_in e) o ++ output_lines es os

-- ---- the end of the input

-- "at the end of input `size=` the head's size, `tags=` their count, and a `tag=` each": of the tags that a list call gives. From
-- an opening onward it is never refused
unfoldable pub final_listing : Machine → Listing → List ℕ
final_listing y (Ok n) = listing_lines (size_of y (head_of y)) (listed y)
final_listing y (Err r) = refusal_line (refusal_number r)

-- "After 10 .. it prints nothing more": the listing only where no line was outside the grammar
unfoldable pub end_lines : Bool → Machine → List ℕ
end_lines true y = final_listing y (list y (replicate 64 0)).says
end_lines false y = refusal_line 10

unfoldable pub ran_lines : List InputLine → Ran → List ℕ
ran_lines ls r = output_lines (events ls) r.outs ++ end_lines (all_events ls) r.machine

unfoldable pub event_lines : Machine → List InputLine → List ℕ
event_lines y ls = ran_lines ls (run y (events ls))

-- ---- the opening

-- the words that a pool is opened with for n records: "nodes outside 1 to 64 give 2, buckets outside 1 to 200 give 3", so none
-- there. An accepted opening rewrites them all
unfoldable pub pool_words : ℕ → ℕ → ℕ → List ℕ
pool_words width most n = if within 1 most n then replicate (width * n) 0 else []

-- judged once, when the header is complete
unfoldable pub session_opening : Header → Opened
session_opening h = opening h.config (pool_words 34 64 h.nodes) (pool_words 66 200 h.buckets)

-- "After .. a refused opening, it prints nothing more."
unfoldable pub opened_lines : Opened → List InputLine → List ℕ
opened_lines o ls = if eqb o.refusal 0 then event_lines o.machine ls else refusal_line o.refusal

-- ---- the whole

-- "Input without three full header lines is 10."
unfoldable pub header_lines : HeaderRead → List ℕ
header_lines (complete h ls) = opened_lines (session_opening h) ls
header_lines incomplete = refusal_line 10

-- what a session prints for these lines, and for these bytes
unfoldable pub lines_transcript : List InputLine → List ℕ
lines_transcript ls = header_lines (read_header ls)

unfoldable pub transcript : List ℕ → List ℕ
transcript input = lines_transcript (input_lines input)
