-- The machine: the state of the cooperative bucket with the words of its pool of versions, and its parts replaced one at a time. A
-- State, a Task and an Operation are built here and nowhere else. Assumes nothing.
use Rattle.std.specs.Prelude.{ℕ, List, Bool, true, false, get_or, set, replicate}
use Rattle.coop_spec.specs.declared.Operation.{Operation}
use Rattle.coop_spec.specs.declared.Task.{Task}
use Rattle.coop_spec.specs.declared.State.{State}

-- all that an entry may change: the state and "a pool of set versions of its own"
pub record Machine : Type 0 where
  pub state : State
  pub versions : List ℕ

abbrev pub machine_of : State → List ℕ → Machine
machine_of s vs = record { state = s; versions = vs }

-- ---- parts of the state and the pool

unfoldable pub with_state : State → Machine → Machine
with_state s y = record { state = s; versions = y.versions }

unfoldable pub with_versions : List ℕ → Machine → Machine
with_versions w y = record { state = y.state; versions = w }

-- the version that the bucket has, which is also the one last taken
unfoldable pub with_node : ℕ → Machine → Machine
with_node k y =
    let s = y.state in
    with_state (record { tasks = s.tasks; versions = s.versions; node = k; last = k; flag = s.flag; operation = s.operation; task = s.task }) y

unfoldable pub with_flag : Bool → Machine → Machine
with_flag f y =
    let s = y.state in
    with_state (record { tasks = s.tasks; versions = s.versions; node = s.node; last = s.last; flag = f; operation = s.operation; task = s.task }) y

unfoldable pub with_operations : List Operation → Machine → Machine
with_operations v y =
    let s = y.state in
    with_state (record { tasks = s.tasks; versions = s.versions; node = s.node; last = s.last; flag = s.flag; operation = v; task = s.task }) y

unfoldable pub with_task : List Task → Machine → Machine
with_task v y =
    let s = y.state in
    with_state (record { tasks = s.tasks; versions = s.versions; node = s.node; last = s.last; flag = s.flag; operation = s.operation; task = v }) y

-- ---- operations: "Operations are numbered 0 to 63"

-- one never invoked
unfoldable pub never_invoked : Operation
never_invoked = record { kind = 0; tag = 0; resp = false; done = false; returned = false }

-- "the first invoke of a number fixes its type and tag"
unfoldable pub with_type : ℕ → ℕ → Operation → Operation
with_type kind tag op = record { kind = kind; tag = tag; resp = op.resp; done = op.done; returned = op.returned }

unfoldable pub with_resp : Bool → Operation → Operation
with_resp b op = record { kind = op.kind; tag = op.tag; resp = b; done = op.done; returned = op.returned }

-- its prio becomes infinite
unfoldable pub as_done : Operation → Operation
as_done op = record { kind = op.kind; tag = op.tag; resp = op.resp; done = true; returned = op.returned }

-- an invoke of it has ended with yes
unfoldable pub as_returned : Operation → Operation
as_returned op = record { kind = op.kind; tag = op.tag; resp = op.resp; done = op.done; returned = true }

-- operation n, never invoked past the end; operation n replaced
unfoldable pub operation_of : Machine → ℕ → Operation
operation_of y n = get_or y.state.operation n never_invoked

unfoldable pub set_operation : ℕ → Operation → Machine → Machine
set_operation n op y = with_operations (set y.state.operation n op) y

-- ---- a task's record

-- "A task that runs nothing has a record of zeros and empty places."
unfoldable pub idle : Task
idle = record { running = false; call = 0; op = 0; tag = 0; line = 0; back = 0; own = 0; o = 0; helped = 0 }

-- a call's number, its operation, its tag, its first line
unfoldable pub fresh_task : ℕ → ℕ → ℕ → ℕ → Task
fresh_task call op tag line =
    record { running = true; call = call; op = op; tag = tag; line = line; back = 0; own = 0; o = 0; helped = 0 }

unfoldable pub with_own : ℕ → Task → Task
with_own v c =
    record { running = c.running; call = c.call; op = c.op; tag = c.tag; line = c.line; back = c.back; own = v; o = c.o; helped = c.helped }

-- on to a line of INVOKE, FREEZE or DOFREEZE that uses no o
unfoldable pub to_line : ℕ → Task → Task
to_line v c =
    record { running = c.running; call = c.call; op = c.op; tag = c.tag; line = v; back = 0; own = c.own; o = 0; helped = 0 }

-- on to a line that uses o
unfoldable pub to_line_with : ℕ → ℕ → Task → Task
to_line_with v o c =
    record { running = c.running; call = c.call; op = c.op; tag = c.tag; line = v; back = c.back; own = c.own; o = o; helped = c.helped }

-- into HELPFINISH, which is to return to line r
unfoldable pub to_help : ℕ → Task → Task
to_help r c =
    record { running = c.running; call = c.call; op = c.op; tag = c.tag; line = 129; back = r; own = c.own; o = 0; helped = 0 }

-- on to line 138, with the link of the operation found
unfoldable pub to_finish : ℕ → Task → Task
to_finish l c =
    record { running = c.running; call = c.call; op = c.op; tag = c.tag; line = 138; back = c.back; own = c.own; o = c.o; helped = l }

-- ---- the state's tasks

-- as an opening leaves it: the bucket has version 0, no operation was invoked and no task runs
unfoldable pub state_of : ℕ → ℕ → State
state_of t v =
    record { tasks = t; versions = v; node = 0; last = 0; flag = false; operation = replicate 64 never_invoked; task = replicate 8 idle }

-- task k's record, idle past the end; task k's record replaced
unfoldable pub task_of : Machine → ℕ → Task
task_of y k = get_or y.state.task k idle

unfoldable pub set_task : ℕ → Task → Machine → Machine
set_task k c y = with_task (set y.state.task k c) y
