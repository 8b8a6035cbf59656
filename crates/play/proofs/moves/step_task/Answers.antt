-- `play::moves::step_task` meets its contract: the words that the step may write are kept before it. Assumes nothing.
use Rattle.spec.specs.Machine.{Machine, machine_of, task_of, idle}
use Rattle.play.proofs.MovesMade.{by_step}
use Rattle.play.proofs.moves.step_task.Goals as goal

pub returns : goal.returns
unfolding task_of idle
returns c =
    let a = c.args in
    let y : Machine = machine_of a.s a.ns.now a.bs.now in
    by_step y a.k c.requires.1 c.keep-kept.result c.keep-kept.ensures c.step-d.result _ _ c.step-d.ensures c.ends_call.result c.ends_call.ensures
