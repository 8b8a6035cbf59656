-- What the rows of whole machines are made of: a task's record, a state and pools written out, and one step of task 0 from one machine
-- to another. Such a machine need not come from an opening: every sound memory has its next step. Assumes nothing.
use Rattle.std.specs.Prelude.{ℕ, ◌-◌, List, [], ◌∷◌, ◌++◌, true, false, length, replicate, Ok, Err}
use Rattle.spec.specs.declared.Refusal.{Refusal}
use Rattle.spec.specs.declared.Config.{Config}
use Rattle.spec.specs.Outputs.{Output}
use Rattle.spec.specs.declared.Progress.TheVariants.{At}
use Rattle.spec.specs.declared.State.{State}
use Rattle.spec.specs.declared.Task.{Task}
use Rattle.spec.specs.Machine.{Machine, config_of, machine_of, idle}
use Rattle.spec.specs.Entries.{Reply, step}

-- ---- records written out. A later field of the state or of a task is added here

-- a running task. Calls: 1 insert, 2 remove, 3 contains, 4 grow, 5 shrink. From t on: a record's number plus 1, or 0.
infix 90 call◌tag◌line◌i◌own◌t◌s◌b◌m◌n◌new_node◌new_bucket◌
abbrev pub call◌tag◌line◌i◌own◌t◌s◌b◌m◌n◌new_node◌new_bucket◌ : ℕ → ℕ → ℕ → ℕ → ℕ → ℕ → ℕ → ℕ → ℕ → ℕ → ℕ → ℕ → Task
call◌tag◌line◌i◌own◌t◌s◌b◌m◌n◌new_node◌new_bucket◌ f k l j o t' s' b' m' n' h' d' =
    record { running = true; call = f; tag = k; line = l; i = j; own = o; t = t'; s = s'; b = b'; m = m'; n = n'; new_node = h'; new_bucket = d' }

-- the same record, but not running
abbrev pub stopped : Task → Task
stopped c =
    record {
      running = false;
      call = c.call;
      tag = c.tag;
      line = c.line;
      i = c.i;
      own = c.own;
      t = c.t;
      s = c.s;
      b = c.b;
      m = c.m;
      n = c.n;
      new_node = c.new_node;
      new_bucket = c.new_bucket;
    }

-- the tasks given, then idle ones; the last one chosen is T − 1, as an opening sets it, where a row does not say otherwise
infix 90 config◌H◌B◌head◌last_node◌last_bucket◌tasks◌
abbrev pub config◌H◌B◌head◌last_node◌last_bucket◌tasks◌ : Config → ℕ → ℕ → ℕ → ℕ → ℕ → List Task → State
config◌H◌B◌head◌last_node◌last_bucket◌tasks◌ g h d k ln lb cs =
    record {
      config = g;
      nodes = h;
      buckets = d;
      head = k;
      last_node = ln;
      last_bucket = lb;
      chosen = g.tasks - 1;
      task = cs ++ replicate (8 - length cs) idle;
    }

-- a size, a predecessor's number plus 1, and the first places; the others are empty
abbrev pub node : ℕ → ℕ → List ℕ → List ℕ
node sz p ls = sz ∷ p ∷ ls ++ replicate (32 - length ls) 0

-- 1 if it may change, and the tags
abbrev pub bucket : ℕ → List ℕ → List ℕ
bucket c ks = c ∷ length ks ∷ ks ++ replicate (64 - length ks) 0

-- records one after the other
unfoldable pub pool : List (List ℕ) → List ℕ
pool [] = []
pool (r ∷ rs) = r ++ pool rs

-- a yard of two tasks: the head, the node and the bucket last taken, the nodes, the buckets, and the tasks
unfoldable pub yard : ℕ → ℕ → ℕ → List (List ℕ) → List (List ℕ) → List Task → Machine
yard k ln lb ns bs cs =
    machine_of (config (config_of 2) H (length ns) B (length bs) head k last_node ln last_bucket lb tasks cs) (pool ns) (pool bs)

-- ---- rows: a machine, and what a step of task 0 answers and leaves

pub record Row : Type 0 where
  pub before : Machine
  pub out : Output
  pub after : Machine

unfoldable pub told : Row → Reply
told r = record { out = r.out; machine = r.after }

unfoldable pub stepped : Row → Reply
stepped r = step r.before 0

-- task 0's record in a yard, and then in another; and then in the same
unfoldable pub goes : (Task → Machine) → (Task → Machine) → Task → Task → Row
goes y z c d = record { before = y c; out = Ok (At d.line); after = z d }

unfoldable pub keeps : (Task → Machine) → Task → Task → Row
keeps y c d = goes y y c d

-- the call ends, with this output, in another yard; in the same
unfoldable pub ends_writing : (Task → Machine) → (Task → Machine) → Output → Task → Row
ends_writing y z o c = record { before = y c; out = o; after = z idle }

unfoldable pub ends : (Task → Machine) → Output → Task → Row
ends y o c = ends_writing y y o c

-- nothing changes
unfoldable pub refused : Refusal → (Task → Machine) → Task → Row
refused r y c = record { before = y c; out = Err r; after = y c }

-- opens all of these
unfoldable pub whole_rows : ℕ
unfolding pool yard told stepped goes keeps ends_writing ends refused
whole_rows = 0
