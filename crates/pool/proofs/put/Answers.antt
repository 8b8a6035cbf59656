use Rattle.std.proofs.Common.{sym}
use lib.Seq.{set_out}
use Rattle.pool.proofs.put.Goals as goal

-- past the end `set` changes nothing
pub returns-else-at-s : goal.returns-else-at-s
returns-else-at-s c = sym (set_out c.args.s.now c.args.at c.args.v c.if-at-s.false)
