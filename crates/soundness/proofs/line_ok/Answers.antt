use Rattle.std.proofs.Common.{arith}
use Rattle.spec.specs.Lists.{member}
use Rattle.pool.proofs.Laws.{lines_none, lines_change, lines_look, lines_resize, lines_past}
use Rattle.soundness.proofs.line_ok.Goals as goal

pub returns-in-3 : goal.returns-in-3
returns-in-3 c = rw (lines_look c.args.call (omega arith) (omega arith)) c.among.ensures

pub returns-in-1 : goal.returns-in-1
returns-in-1 c = rw (lines_change c.args.call (omega arith) (omega arith)) c.among-in-1.ensures

pub returns-in-4 : goal.returns-in-4
returns-in-4 c = rw (lines_resize c.args.call (omega arith) (omega arith)) c.among-in-4.ensures

pub returns-in_default : goal.returns-in_default
unfolding member
returns-in_default c = rw (lines_none c.args.call (omega arith))

pub returns-in_default-2 : goal.returns-in_default-2
unfolding member
returns-in_default-2 c = rw (lines_past c.args.call (omega arith))
