-- `matters` asks the event's first word whether it is a step, and runs the others only then. Assumes nothing.
use Rattle.std.proofs.Common.{not, ap}
use Rattle.mattered_run.proofs.Verdicts.{no_step_there, step_there_is}
use Rattle.mattered_run.proofs.matters.Goals as goal

pub returns-in-Some : goal.returns-in-Some
returns-in-Some c =
    let a = c.args in
    no_step_there a.k a.r.count a.r.events.now c.requires c.word.ensures c.asked_by.result c.asked_by.ensures _ _ c.in-Some.is

pub returns-in-None : goal.returns-in-None
returns-in-None c =
    let a = c.args in
    step_there_is a.k a.r.count a.r.events.now c.requires c.word.ensures c.asked_by.result c.asked_by.ensures _ c.in-None.is _ (ap not c.same_without.ensures)
