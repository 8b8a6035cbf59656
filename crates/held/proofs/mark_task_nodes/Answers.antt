use Rattle.spec.specs.Lists.{concat_map}
use Rattle.held_marks.proofs.Laws.{same}
use Rattle.held.proofs.Laws.{task_marks, nodes_of_idle}
use Rattle.held.proofs.mark_task_nodes.Goals as goal

pub returns-then-c : goal.returns-then-c
returns-then-c c =
    let a = c.args in
    task_marks a.ns.now a.h a.c c.if-c.true c.mark_chain.ensures c.mark_chain-then-c.ensures c.mark_chain-then-c-2.ensures

pub returns-else-c : goal.returns-else-c
unfolding concat_map
returns-else-c c = rw (nodes_of_idle c.args.c c.if-c.false) (same _)
