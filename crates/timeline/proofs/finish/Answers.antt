-- The session ends, or takes a line that is too long, as one that is not closed.
use Rattle.std.proofs.Common.{arith}
use Rattle.timeline.proofs.Laws.{ends_closed, ends_open}
use Rattle.timeline.proofs.finish.Goals as goal

pub returns-then-closed : goal.returns-then-closed
returns-then-closed c = ends_closed c.args.t _ _ _ c.end_input.result _ _ _ _ c.if-closed.true c.end_input.ensures

pub returns-else-closed : goal.returns-else-closed
returns-else-closed c = ends_open c.args.t _ _ _ c.handle_line.result _ _ _ _ _ c.if-closed.false (omega arith) c.handle_line.ensures
