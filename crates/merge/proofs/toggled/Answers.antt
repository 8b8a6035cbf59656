-- One call more turns the tag or not. Assumes nothing.
use Rattle.merge.proofs.Laws.{toggled_on}
use Rattle.merge.proofs.toggled.Goals as goal
use Rattle.merge.proofs.toggled.Goals.{then-turns, else-turns}

pub loop-x-preserved : goal.loop-x-preserved
loop-x-preserved c =
    let l = c.loop-x in
    let on = toggled_on c.args.tag c.args.before c.args.calls.now l.x-index _ c.loop-x-test.true _ c.turns.ensures _ l.invariant in
    elim c.if-turns.branch [
      | then-turns w ↦ on _ (rw (w.if-turns.true) w.inside-is)
      | else-turns w ↦ on _ (rw (w.if-turns.false) w.inside-is)
    ]
