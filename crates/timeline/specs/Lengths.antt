-- How many bytes a timeline prints at most: for a row, for a line of the input and for its end. They tell a caller how much room to lend. Assumes
-- nothing.
use Rattle.std.specs.Prelude.{◌≡◌, refl, List, [], ◌++◌, Bool, true, false, ℕ, zero, suc, ◌+◌, ◌*◌, ◌≤◌, min, length, if◌then◌else◌, Option, Some, None}
use Rattle.std.proofs.Common.{arith, length-append}
use Rattle.spec.specs.Outputs.{Output}
use Rattle.spec.specs.declared.State.{State}
use Rattle.spec.specs.declared.Task.{Task}
use Rattle.session.specs.declared.EventLine.{EventLine}
use Rattle.session.specs.declared.EventLine.TheVariants.{Start, Step}
use Rattle.session.specs.Grammar.{InputLine, open_line, parse_event_line}
use Rattle.session.specs.OutputLengths.{longest_line, longest_end, output_length}
use Rattle.session_state.specs.declared.Session.{Session}
use Rattle.session_state.specs.Handling.{reads_events, line_effect}
use Rattle.session_lines.specs.OutputBounds.{line_bound, end_bound}
use Rattle.timeline.specs.declared.Timeline.{Timeline}
use Rattle.timeline_rows.specs.Rows.{number_field, column, task_columns, row_columns, row, task_name, task_names, heading}
use Rattle.timeline_rows.specs.Columns.{columns_of, heading_of}
use Rattle.timeline.specs.Lines.{front, after_line, timeline_line, timeline_end}

-- a row: the number and eight columns, and the session's line
abbrev pub longest_row : ℕ
longest_row = 71 + longest_line

-- a line of the input prints at most the first row and a row
abbrev pub longest_rows : ℕ
longest_rows = 78 + longest_row

-- ---- a row

columns_length : (n j k : ℕ) (ts : List Task) → length (task_columns n j k ts) ≡ 8 * n
unfolding task_columns column
columns_length zero j k ts = refl
columns_length (suc n) j k ts = simp length-append (omega (arith, columns_length n (j + 1) k ts))

row_columns_length : (n tasks k : ℕ) (s : State) → length (row_columns n tasks k s) ≤ 71
unfolding row_columns number_field
row_columns_length n tasks k s = simp length-append (omega (arith, columns_length (min tasks 8) 0 k s.task))

pub row_bound : (n tasks k : ℕ) (s : State) (o : Output) → length (row n tasks k s o) ≤ longest_row
unfolding row
row_bound n tasks k s o = simp length-append (omega (arith, row_columns_length n tasks k s, output_length k o))

names_length : (n j : ℕ) → length (task_names n j) ≡ 8 * n
unfolding task_names task_name
names_length zero j = refl
names_length (suc n) j = simp length-append (omega (arith, names_length n (j + 1)))

pub heading_bound : (tasks : ℕ) → length (heading tasks) ≤ 78
unfolding heading
heading_bound tasks = simp length-append (omega (arith, names_length (min tasks 8) 0))

-- ---- a line of the input

columns_of_bound : (x : Option EventLine) (n : ℕ) (before after : Session) → length (columns_of x n before after) ≤ 71
unfolding columns_of
columns_of_bound (Some (Start k call tag)) n before after = row_columns_length _ _ _ _
columns_of_bound (Some (Step k)) n before after = row_columns_length _ _ _ _
columns_of_bound None n before after = omega arith

heading_of_bound : (reading : Bool) (after : Session) → length (heading_of reading after) ≤ 78
unfolding heading_of
heading_of_bound true after = omega arith
heading_of_bound false after = heading_bound _

front_bound : (x : Option EventLine) (t : Timeline) (after : Session) → length (front x t after) ≤ 149
unfolding front
front_bound x t after = go (reads_events after.phase)
  where
    whole : List ℕ
    whole = heading_of (reads_events t.session.phase) after ++ columns_of x t.events t.session after

    go : (b : Bool) → length (if b then whole else []) ≤ 149
    go true =
        simp length-append
        (omega (arith, heading_of_bound (reads_events t.session.phase) after, columns_of_bound x t.events t.session after))
    go false = omega arith

pub rows_bound : (t : Timeline) (ns bs : List ℕ) (l : InputLine) → length (timeline_line t ns bs l).prints ≤ longest_rows
unfolding timeline_line after_line
rows_bound t ns bs l =
    let d = line_effect t.session ns bs l in
    simp length-append (omega (arith, front_bound (parse_event_line l) t d.session, line_bound t.session ns bs l))

-- ---- the end of the input

pub timeline_end_bound : (t : Timeline) (closed : Bool) (ns bs : List ℕ) → length (timeline_end t closed ns bs).prints ≤ longest_end
unfolding timeline_end
timeline_end_bound t true ns bs = end_bound t.session ns bs
timeline_end_bound t false ns bs = omega (arith, line_bound t.session ns bs (open_line []))
