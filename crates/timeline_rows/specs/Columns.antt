-- What stands in a row of the timeline before the session's line, for a line of the input that is handled; and the first row. Assumes nothing.
use Rattle.std.specs.Prelude.{ℕ, ◌+◌, List, [], Bool, ltb, if◌then◌else◌, Option, Some, None}
use Rattle.session.specs.declared.EventLine.{EventLine}
use Rattle.session.specs.declared.EventLine.TheVariants.{Start, Step}
use Rattle.session_state.specs.declared.Session.{Session}
use Rattle.timeline_rows.specs.Rows.{row_columns, heading}

-- events are counted from 1; the count stays at the greatest number of 32 bits
unfoldable pub one_more : ℕ → ℕ
one_more n = if ltb n 4294967295 then (n + 1) else n

-- the count after a line, where events are read
unfoldable pub counted : Option EventLine → ℕ → ℕ
counted (Some (Start k call tag)) n = one_more n
counted (Some (Step k)) n = one_more n
counted None n = n

-- the columns of the line's row; a line that is no event's has none. The session stands after the line as `after`
unfoldable pub columns_of : Option EventLine → ℕ → Session → Session → List ℕ
columns_of (Some (Start k call tag)) n before after = row_columns (one_more n) after.header.config.tasks k before.state
columns_of (Some (Step k)) n before after = row_columns (one_more n) after.header.config.tasks k before.state
columns_of None n before after = []

-- the first row, where the line has opened the set
unfoldable pub heading_of : Bool → Session → List ℕ
heading_of reading after = if reading then [] else heading after.header.config.tasks
