-- The step over the session's part of the pools, and its printed line.
use Rattle.std.proofs.Common.{rules}
use Rattle.session_state.proofs.Laws.{line_as}
use Rattle.session_lines.proofs.Laws.{replies}
use Rattle.session_lines.proofs.events.step_task.Goals as goal

pub returns : goal.returns
returns c =
    let p = c.args in
    line_as _ _ _ _ _ _ _ c.after_line.ensures
    (replies p.s p.ns.now p.bs.now p.k _ c.step-d.result _ _ _ _ _ c.step-d.ensures (search rules))
