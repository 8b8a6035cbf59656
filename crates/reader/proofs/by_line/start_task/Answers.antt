-- `reader::by_line::start_task` meets its contract. The start over the reader's part of the pools, of which no word is written. Assumes nothing.
use Rattle.spec.specs.Schedule.{starts, event}
use Rattle.session.specs.Transcript.{task_in}
use Rattle.reader.proofs.Parts.{runs}
use Rattle.reader.proofs.by_line.start_task.Goals as goal

pub returns : goal.returns
unfolding event task_in
returns c =
    let a = c.args in
    λ ns bs e.
    runs a.r ns bs (starts a.k a.call a.tag) c.start-d.result _ _ _ (c.start-d.ensures a.r.header ns bs e) c.next_number.ensures
