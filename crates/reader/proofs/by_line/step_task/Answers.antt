-- `reader::by_line::step_task` meets its contract. The step over the reader's part of the pools. Assumes nothing.
use Rattle.spec.specs.Schedule.{steps, event}
use Rattle.session.specs.Transcript.{task_in}
use Rattle.reader.proofs.Parts.{runs}
use Rattle.reader.proofs.by_line.step_task.Goals as goal

pub returns : goal.returns
unfolding event task_in
returns c =
    let a = c.args in
    runs a.r a.ns.now a.bs.now (steps a.k) c.step-d.result _ _ _ c.step-d.ensures c.next_number.ensures
