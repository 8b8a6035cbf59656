-- `planner::all_figures` meets its contract. Assumes nothing.
use Rattle.std.proofs.Common.{sym, ◌∙◌, arith}
use Rattle.plans.specs.Plan.{fresh}
use Rattle.planner.specs.Standing.{shape}
use Rattle.planner.proofs.Stored.{stored_all, stored_next, stored_end}
use Rattle.planner.proofs.all_figures.Goals as goal

pub loop-i-preserved : goal.loop-i-preserved
loop-i-preserved c =
    let l = c.loop-i in
    let p = c.call-r.ensures in
    (p.ready, stored_next c.args.g c.args.calls.now l.i (shape l.s) l.figures _ c.loop-i-test.true _ _ p.figures p.next ∙ l.invariant.1)

pub returns : goal.returns
returns c =
    let l = c.loop-i in
    sym (stored_end c.args.g c.args.calls.now l.i (shape l.s) l.figures (omega arith))
    ∙ l.invariant.1
    ∙ stored_all c.args.g c.args.calls.now c.requires fresh
