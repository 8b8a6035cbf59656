-- The machine: the state with both pools, and its parts replaced one at a time (antt has no record update). A State and a Task
-- are built here and nowhere else, so that a later field is added in this file alone. Assumes nothing.
use Rattle.std.specs.Prelude.{ℕ, ◌-◌, List, Bool, true, false, get_or, set, replicate}
use Rattle.spec.specs.declared.Task.{Task}
use Rattle.spec.specs.declared.Config.{Config}
use Rattle.spec.specs.declared.State.{State}

-- all that an entry may change: the state and the words of both pools ("Both pools are lent slices of 32-bit words")
pub record Machine : Type 0 where
  pub state : State
  pub nodes : List ℕ
  pub buckets : List ℕ

abbrev pub machine_of : State → List ℕ → List ℕ → Machine
machine_of s ns bs = record { state = s; nodes = ns; buckets = bs }

-- ---- parts of the state and the pools

unfoldable pub state_head : ℕ → State → State
state_head v s = record { config = s.config; nodes = s.nodes; buckets = s.buckets; head = v; last_node = s.last_node; last_bucket = s.last_bucket; chosen = s.chosen; task = s.task }

unfoldable pub state_last_node : ℕ → State → State
state_last_node v s = record { config = s.config; nodes = s.nodes; buckets = s.buckets; head = s.head; last_node = v; last_bucket = s.last_bucket; chosen = s.chosen; task = s.task }

unfoldable pub state_last_bucket : ℕ → State → State
state_last_bucket v s = record { config = s.config; nodes = s.nodes; buckets = s.buckets; head = s.head; last_node = s.last_node; last_bucket = v; chosen = s.chosen; task = s.task }

unfoldable pub state_chosen : ℕ → State → State
state_chosen v s = record { config = s.config; nodes = s.nodes; buckets = s.buckets; head = s.head; last_node = s.last_node; last_bucket = s.last_bucket; chosen = v; task = s.task }

unfoldable pub state_task : List Task → State → State
state_task v s = record { config = s.config; nodes = s.nodes; buckets = s.buckets; head = s.head; last_node = s.last_node; last_bucket = s.last_bucket; chosen = s.chosen; task = v }

unfoldable pub with_state : State → Machine → Machine
with_state s y = record { state = s; nodes = y.nodes; buckets = y.buckets }

unfoldable pub with_nodes : List ℕ → Machine → Machine
with_nodes w y = record { state = y.state; nodes = w; buckets = y.buckets }

unfoldable pub with_buckets : List ℕ → Machine → Machine
with_buckets w y = record { state = y.state; nodes = y.nodes; buckets = w }

unfoldable pub with_head : ℕ → Machine → Machine
with_head k y = with_state (state_head k y.state) y

unfoldable pub with_last_node : ℕ → Machine → Machine
with_last_node k y = with_state (state_last_node k y.state) y

unfoldable pub with_last_bucket : ℕ → Machine → Machine
with_last_bucket k y = with_state (state_last_bucket k y.state) y

unfoldable pub with_chosen : ℕ → Machine → Machine
with_chosen k y = with_state (state_chosen k y.state) y

unfoldable pub with_task : List Task → Machine → Machine
with_task ts y = with_state (state_task ts y.state) y

-- ---- a task's record

-- "A task that runs nothing has a record of zeros and empty places."
unfoldable pub idle : Task
idle =
    record { running = false; call = 0; tag = 0; line = 0; i = 0; own = 0; t = 0; s = 0; b = 0; m = 0; n = 0; new_node = 0; new_bucket = 0 }

-- "A start sets the call, the tag (0 for a resize) and the first line (12, 32 or 20), and leaves the rest so." Given: these three
unfoldable pub fresh_task : ℕ → ℕ → ℕ → Task
fresh_task call tag line =
    record { running = true; call = call; tag = tag; line = line; i = 0; own = 0; t = 0; s = 0; b = 0; m = 0; n = 0; new_node = 0; new_bucket = 0 }

unfoldable pub with_line : ℕ → Task → Task
with_line v c =
    record { running = c.running; call = c.call; tag = c.tag; line = v; i = c.i; own = c.own; t = c.t; s = c.s; b = c.b; m = c.m; n = c.n; new_node = c.new_node; new_bucket = c.new_bucket }

unfoldable pub with_own : ℕ → Task → Task
with_own v c =
    record { running = c.running; call = c.call; tag = c.tag; line = c.line; i = c.i; own = v; t = c.t; s = c.s; b = c.b; m = c.m; n = c.n; new_node = c.new_node; new_bucket = c.new_bucket }

unfoldable pub with_i : ℕ → Task → Task
with_i v c =
    record { running = c.running; call = c.call; tag = c.tag; line = c.line; i = v; own = c.own; t = c.t; s = c.s; b = c.b; m = c.m; n = c.n; new_node = c.new_node; new_bucket = c.new_bucket }

unfoldable pub with_t : ℕ → Task → Task
with_t v c =
    record { running = c.running; call = c.call; tag = c.tag; line = c.line; i = c.i; own = c.own; t = v; s = c.s; b = c.b; m = c.m; n = c.n; new_node = c.new_node; new_bucket = c.new_bucket }

unfoldable pub with_s : ℕ → Task → Task
with_s v c =
    record { running = c.running; call = c.call; tag = c.tag; line = c.line; i = c.i; own = c.own; t = c.t; s = v; b = c.b; m = c.m; n = c.n; new_node = c.new_node; new_bucket = c.new_bucket }

unfoldable pub with_b : ℕ → Task → Task
with_b v c =
    record { running = c.running; call = c.call; tag = c.tag; line = c.line; i = c.i; own = c.own; t = c.t; s = c.s; b = v; m = c.m; n = c.n; new_node = c.new_node; new_bucket = c.new_bucket }

unfoldable pub with_m : ℕ → Task → Task
with_m v c =
    record { running = c.running; call = c.call; tag = c.tag; line = c.line; i = c.i; own = c.own; t = c.t; s = c.s; b = c.b; m = v; n = c.n; new_node = c.new_node; new_bucket = c.new_bucket }

unfoldable pub with_n : ℕ → Task → Task
with_n v c =
    record { running = c.running; call = c.call; tag = c.tag; line = c.line; i = c.i; own = c.own; t = c.t; s = c.s; b = c.b; m = c.m; n = v; new_node = c.new_node; new_bucket = c.new_bucket }

unfoldable pub with_new_node : ℕ → Task → Task
with_new_node v c =
    record { running = c.running; call = c.call; tag = c.tag; line = c.line; i = c.i; own = c.own; t = c.t; s = c.s; b = c.b; m = c.m; n = c.n; new_node = v; new_bucket = c.new_bucket }

unfoldable pub with_new_bucket : ℕ → Task → Task
with_new_bucket v c =
    record { running = c.running; call = c.call; tag = c.tag; line = c.line; i = c.i; own = c.own; t = c.t; s = c.s; b = c.b; m = c.m; n = c.n; new_node = c.new_node; new_bucket = v }

-- "every place in the task's record is emptied"
unfoldable pub without_places : Task → Task
without_places c =
    record { running = c.running; call = c.call; tag = c.tag; line = c.line; i = c.i; own = c.own; t = 0; s = 0; b = 0; m = 0; n = 0; new_node = 0; new_bucket = 0 }

-- ---- the whole state, and its tasks

-- what an opening is given besides the slices: "opening with T and two slices". Paper 02, U3: "A yard is opened for version 1 or 2";
-- U9: "a yard opened under the new rule". Version 1 and the old rule where nothing else is said
abbrev pub config_of : ℕ → Config
config_of t = record { tasks = t; version = 1; zero_withdrawn = false }

abbrev pub with_version : ℕ → Config → Config
with_version v g = record { tasks = g.tasks; version = v; zero_withdrawn = g.zero_withdrawn }

-- true for the new rule, under which tag 0 is withdrawn
abbrev pub with_zero_withdrawn : Bool → Config → Config
with_zero_withdrawn w g = record { tasks = g.tasks; version = g.version; zero_withdrawn = w }

-- of "a state of all zeros"
abbrev pub zero_config : Config
zero_config = record { tasks = 0; version = 0; zero_withdrawn = false }

-- "The state holds T, H, B, the head node, the node and the bucket last taken, and a record for each of eight tasks": as an
-- opening leaves it, with no task running. Paper 02, U7: "the last one chosen, kept in the state": "an opening sets T − 1"; of no tasks, 0
unfoldable pub state_of : Config → ℕ → ℕ → State
state_of g h b =
    record { config = g; nodes = h; buckets = b; head = 0; last_node = 0; last_bucket = 0; chosen = g.tasks - 1; task = replicate 8 idle }

-- task k's record, idle past the end; task k's record replaced
unfoldable pub task_of : Machine → ℕ → Task
task_of y k = get_or y.state.task k idle

unfoldable pub set_task : ℕ → Task → Machine → Machine
set_task k c y = with_task (set y.state.task k c) y
