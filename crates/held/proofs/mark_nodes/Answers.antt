use Rattle.std.proofs.Common.{drop, arith}
use Rattle.spec.specs.Lists.{concat_map}
use Rattle.held_marks.proofs.Laws.{tasks_turn, tasks_last, finish}
use Rattle.held.proofs.Laws.{of_task, held_all}
use Rattle.held.proofs.mark_nodes.Goals as goal

pub loop-c-init : goal.loop-c-init
loop-c-init c = λ q r. r

pub loop-c-preserved : goal.loop-c-preserved
loop-c-preserved c =
    let ts = c.args.s.task in
    let f = of_task c.args.ns.now c.args.s.nodes in
    tasks_turn f ts c.loop-c.c-index _ (concat_map f ts) (omega arith) c.loop-c.invariant c.mark_task_nodes.ensures

pub returns : goal.returns
returns c = λ bs.
    let w = c.args.ns.now in
    let ts = c.args.s.task in
    let f = of_task w c.args.s.nodes in
    let k = c.loop-c.c-index in
    held_all w bs c.args.s c.mark_chain.ensures (finish (concat_map f (drop k ts)) (concat_map f ts) (tasks_last ts k f (omega arith)) c.loop-c.invariant)
