-- A timeline, a line of the session's input at a time: the session goes on as it does (Handling of session_state), and before what it prints for an
-- event's line stand the row's columns, after an opening that is accepted the first row. Assumes nothing.
use Rattle.std.specs.Prelude.{ℕ, ◌≡◌, List, [], ◌++◌, Bool, true, false, if◌then◌else◌, Option}
use Rattle.session.specs.declared.EventLine.{EventLine}
use Rattle.session.specs.Buffer.{buffer, append}
use Rattle.session.specs.Grammar.{InputLine, open_line, parse_event_line}
use Rattle.session_state.specs.declared.Session.{Session}
use Rattle.session_state.specs.Handling.{new_session, reads_events, LineEffect, line_effect, end_effect}
use Rattle.timeline.specs.declared.Timeline.{Timeline}
use Rattle.timeline.specs.declared.Taken.{Taken}
use Rattle.timeline_rows.specs.Columns.{counted, columns_of, heading_of}

abbrev pub timeline : Session → ℕ → Timeline
timeline s n = record { session = s; events = n }

abbrev pub taken : Timeline → ℕ → Taken
taken t n = record { timeline = t; printed = n }

-- no line is read yet
unfoldable pub new_timeline : Timeline
new_timeline = timeline new_session 0

-- what is printed before the session's own line, and the count: where events are read after the line
unfoldable pub front : Option EventLine → Timeline → Session → List ℕ
front x t after =
    if reads_events after.phase then (heading_of (reads_events t.session.phase) after ++ columns_of x t.events t.session after)
    else []

unfoldable pub count_after : Option EventLine → Timeline → Session → ℕ
count_after x t after = if reads_events after.phase then counted x t.events else t.events

-- ---- a line, and the end of the input

pub record TimelineEffect : Type 0 where
  pub timeline : Timeline
  pub nodes : List ℕ
  pub buckets : List ℕ
  pub prints : List ℕ

-- what the session does with the line, and the row
unfoldable pub after_line : Option EventLine → Timeline → LineEffect → TimelineEffect
after_line x t d =
    record {
      timeline = timeline d.session (count_after x t d.session);
      nodes = d.nodes;
      buckets = d.buckets;
      prints = front x t d.session ++ d.prints;
    }

unfoldable pub timeline_line : Timeline → List ℕ → List ℕ → InputLine → TimelineEffect
timeline_line t ns bs l = after_line (parse_event_line l) t (line_effect t.session ns bs l)

-- the end of an input whose last line is closed, or not: as the session ends, which takes a line that is not closed as one outside the grammar
unfoldable pub timeline_end : Timeline → Bool → List ℕ → List ℕ → LineEffect
timeline_end t true ns bs = end_effect t.session ns bs
timeline_end t false ns bs = line_effect t.session ns bs (open_line [])

-- ---- what the code is held to

pub record TakenAs (d : TimelineEffect) (r : Taken) (ns bs before after : List ℕ) : Type 0 where
  pub next : r.timeline ≡ d.timeline
  pub nodes : ns ≡ d.nodes
  pub buckets : bs ≡ d.buckets
  pub wrote : buffer after r.printed ≡ append d.prints (buffer before 0)

-- the end of an input
pub record EndedBy (d : LineEffect) (count : ℕ) (ns bs before after : List ℕ) : Type 0 where
  pub nodes : ns ≡ d.nodes
  pub buckets : bs ≡ d.buckets
  pub wrote : buffer after count ≡ append d.prints (buffer before 0)
