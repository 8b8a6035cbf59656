-- `recorder::program::yardrecord` meets its contract: the text of standard input, and what it says (RunLaws). Assumes nothing.
use Rattle.stdio.specs.Runs.{status_kept}
use Rattle.recorder.proofs.RunLaws.{ran_recorder}
use Rattle.recorder.proofs.program.yardrecord.Goals as goal

pub returns : goal.returns
returns g c =
    let t = c.text-t in
    ran_recorder _ _ t.result.input c.answer-o.result c.left_out.result _ t.ensures.prints c.answer-o.ensures
    c.left_out.ensures (status_kept _ _ c.status.ensures)
