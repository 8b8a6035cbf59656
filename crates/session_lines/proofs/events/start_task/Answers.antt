-- The start over the session's part of the pools, and its printed line.
use Rattle.std.proofs.Common.{rules}
use Rattle.session_state.proofs.Laws.{line_as}
use Rattle.session_lines.proofs.Laws.{replies}
use Rattle.session_lines.proofs.events.start_task.Goals as goal

pub returns : goal.returns
returns c =
    let p = c.args in
    λ ns bs e.
    line_as _ _ _ _ _ _ _ c.after_line.ensures
    (replies p.s ns bs p.k _ c.start-d.result _ _ _ _ _ (c.start-d.ensures p.s.header ns bs e) (search rules))
