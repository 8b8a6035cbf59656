-- What a line gives back, as the definitions' reply; what the lines ask of a sound machine and a running task; and the lines of one
-- shape. Assumes nothing.
use Rattle.std.specs.Prelude.{ℕ, ◌*◌, ◌≤◌, ◌<◌, ◌≡◌, List, ◌&&◌, length, if◌then◌else◌}
use Rattle.coop_spec.specs.declared.Refusal.TheVariants.{Spoilt}
use Rattle.spec.specs.Words.{number, filled}
use Rattle.coop_spec.specs.declared.State.{State}
use Rattle.coop_spec.specs.declared.Task.{Task}
use Rattle.coop_spec.specs.Machine.{Machine, machine_of, to_line_with, to_help}
use Rattle.coop_spec.specs.Entries.{Reply, refuse, accept}
use Rattle.coop_spec.specs.Lines.{no_op, moves}
use Rattle.coop_pool.specs.Versions.{Tagged}
use Rattle.coop_lines.specs.declared.Stepped.{Stepped}

-- the answer, and the state with what is left in the pool
abbrev pub reply_of : Stepped → List ℕ → Reply
reply_of r vs = record { out = r.out; machine = machine_of r.state vs }

-- what the lines ask: the state's numbers, the task's operation, and the tags of the version that it names
pub record Ready (s : State) (vs : List ℕ) (c : Task) : Type 0 where
  pub versions_most : s.versions ≤ 1024
  pub pool_length : length vs ≡ 66 * s.versions
  pub node_in : s.node < s.versions
  pub last_in : s.last < s.versions
  pub op_low : c.op < 64
  pub o_tagged : 0 < c.o → Tagged vs (number c.o)

-- a line that goes through o: 8 where o is empty
unfoldable pub through_o : Machine → Task → Reply → Reply
through_o y c r = if filled c.o then r else refuse Spoilt y

-- and one that goes through the helped operation too
unfoldable pub through_both : Machine → Task → Reply → Reply
through_both y c r = if filled c.o && filled c.helped then r else refuse Spoilt y

-- if o.op = nil on to the line next, else into HELPFINISH, which is to return to back
abbrev pub tested : Machine → ℕ → Task → ℕ → ℕ → Reply
tested y k c next back =
    through_o y c (accept y k c.own (if no_op y c then moves (to_line_with next c.o c) else moves (to_help back c)))
