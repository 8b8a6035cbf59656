-- Rows of columns: where the tasks stand when an event comes. A wrong definition breaks them. Assumes nothing.
use Rattle.std.specs.Prelude.{◌≡◌, refl, List, [], ◌∷◌, map, Some, None}
use Rattle.spec.specs.declared.Call.TheVariants.{Grow}
use Rattle.spec.specs.declared.Task.{Task}
use Rattle.spec.specs.Everything.{everything}
use Rattle.spec.specs.Machine.{config_of}
use Rattle.spec.specs.WholeRows.{call◌tag◌line◌i◌own◌t◌s◌b◌m◌n◌new_node◌new_bucket◌, whole_rows}
use Rattle.spec.specs.EditEntryRows.{small}
use Rattle.session.specs.declared.EventLine.TheVariants.{Start, Step}
use Rattle.session.specs.Ascii.{codes, ascii}
use Rattle.session_state.specs.declared.Phase.TheVariants.{Events}
use Rattle.session_state.specs.declared.Session.{Session}
use Rattle.session_state.specs.Handling.{session}
use Rattle.timeline_rows.specs.Rows.{figure, number_field, mark, stands_first, stands_second, column, task_columns, row_columns}
use Rattle.timeline_rows.specs.Columns.{one_more, columns_of}

-- a session of two tasks
abbrev pub of_two : List Task → Session
of_two cs = session Events (record { config = config_of 2; nodes = 1; buckets = 1 }) (small cs).state

-- task 0 stands at line 12, and after the event at line 13; task 1 is idle
abbrev pub looks : Task
looks = call 3 tag 5 line 12 i 0 own 0 t 0 s 0 b 0 m 0 n 0 new_node 0 new_bucket 0

abbrev pub looked : Task
looked = call 3 tag 5 line 13 i 0 own 1 t 1 s 0 b 0 m 0 n 0 new_node 0 new_bucket 0

-- a step of task 0, a start of task 1, and a line that is no event's
pub as_it_comes :
    map (λ x. columns_of x 6 (of_two (looks ∷ [])) (of_two (looked ∷ []))) (Some (Step 0) ∷ Some (Start 1 Grow 0) ∷ None ∷ [])
    ≡ ascii "     7 *12      .      " ∷ ascii "     7  12     *.      " ∷ [] ∷ []
unfolding everything whole_rows small codes ascii figure number_field mark stands_first stands_second column task_columns row_columns one_more columns_of
as_it_comes = refl
