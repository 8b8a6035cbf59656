use Rattle.std.proofs.Common.{arith}
use Rattle.held_marks.proofs.Laws.{mark_none, mark_past, mark_one}
use Rattle.held_marks.proofs.mark.Goals as goal
use Rattle.held_marks.proofs.mark.Goals.{else-l-ne0-via-else-l-ne0, else-l-ne0-via-then-l-ne0+else-l-m}

pub returns-then-l-m : goal.returns-then-l-m
returns-then-l-m c = mark_one c.args.m.now c.args.l c.if-l-ne0.true (omega arith)

pub returns-else-l-ne0 : goal.returns-else-l-ne0
returns-else-l-ne0 c = elim c.else-l-ne0.branch [
  | else-l-ne0-via-else-l-ne0 w ↦ mark_none c.args.m.now c.args.l w.if-l-ne0.false
  | else-l-ne0-via-then-l-ne0+else-l-m w ↦ mark_past c.args.m.now c.args.l (omega arith)
]
