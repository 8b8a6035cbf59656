-- The rows of a timeline, as bytes: for each event its number, a column for each task, and then the line that the session prints for it. A column
-- shows where its task stands when the event comes: `.` if it runs no call, else the line that it does next. The task that the event names is marked
-- by `*`. Assumes nothing.
use Rattle.std.specs.Prelude.{ℕ, zero, suc, ◌+◌, ◌/◌, ◌%◌, min, ◌≡◌, refl, List, [], ◌∷◌, ◌++◌, Bool, eqb, get_or, if◌then◌else◌}
use Rattle.spec.specs.Outputs.{Output}
use Rattle.spec.specs.declared.State.{State}
use Rattle.spec.specs.declared.Task.{Task}
use Rattle.spec.specs.Machine.{idle}
use Rattle.session.specs.Ascii.{codes, ascii}
use Rattle.session.specs.Print.{output_line}

abbrev pub blank : ℕ
blank = 32

-- the last decimal digit of n, a blank if n is 0: so a number's leading zeros are blanks
unfoldable pub figure : ℕ → ℕ
figure n = if eqb n 0 then blank else 48 + n % 10

-- an event's number, in six places: its last six digits, if it has more
unfoldable pub number_field : ℕ → List ℕ
number_field n = figure (n / 100000) ∷ figure (n / 10000) ∷ figure (n / 1000) ∷ figure (n / 100) ∷ figure (n / 10) ∷ figure n ∷ blank ∷ []

-- ---- a task's column: eight places

-- `*` for the task that the event names
unfoldable pub mark : Bool → ℕ
mark named = if named then 42 else blank

-- the line at which the task stands, of two digits as all of them are, or `.`
unfoldable pub stands_first : Task → ℕ
stands_first c = if c.running then figure (c.line / 10) else 46

unfoldable pub stands_second : Task → ℕ
stands_second c = if c.running then figure c.line else blank

unfoldable pub column : Bool → Task → List ℕ
column named c = mark named ∷ stands_first c ∷ stands_second c ∷ blank ∷ blank ∷ blank ∷ blank ∷ blank ∷ []

-- the columns of n tasks, the first of which is task j; the event names task k
unfoldable pub task_columns : ℕ → ℕ → ℕ → List Task → List ℕ
task_columns zero j k ts = []
task_columns (suc n) j k ts = column (eqb j k) (get_or ts j idle) ++ task_columns n (j + 1) k ts

-- what stands in the row of event n before the session's line: it names task k of so many, in this state
unfoldable pub row_columns : ℕ → ℕ → ℕ → State → List ℕ
row_columns n tasks k s = number_field n ++ task_columns (min tasks 8) 0 k s.task

-- the row, with what the event had for an answer
unfoldable pub row : ℕ → ℕ → ℕ → State → Output → List ℕ
row n tasks k s o = row_columns n tasks k s ++ output_line k o

-- ---- the first row: ` event task 0  task 1  ` and so on

abbrev pub event_word : List ℕ
event_word = 32 ∷ 101 ∷ 118 ∷ 101 ∷ 110 ∷ 116 ∷ 32 ∷ []

abbrev pub answer_word : List ℕ
answer_word = 97 ∷ 110 ∷ 115 ∷ 119 ∷ 101 ∷ 114 ∷ 10 ∷ []

unfoldable pub task_name : ℕ → List ℕ
task_name j = 116 ∷ 97 ∷ 115 ∷ 107 ∷ 32 ∷ (48 + j % 10) ∷ 32 ∷ 32 ∷ []

-- the names of n tasks, the first of which is task j
unfoldable pub task_names : ℕ → ℕ → List ℕ
task_names zero j = []
task_names (suc n) j = task_name j ++ task_names n (j + 1)

unfoldable pub heading : ℕ → List ℕ
heading tasks = event_word ++ task_names (min tasks 8) 0 ++ answer_word

pub words_spelled : event_word ++ task_name 0 ++ answer_word ≡ ascii " event task 0  answer\n"
unfolding codes ascii task_name
words_spelled = refl
