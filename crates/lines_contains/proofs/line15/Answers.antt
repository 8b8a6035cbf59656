use Rattle.std.proofs.Common.{◌∙◌}
use borrow.Author.Tests.{eq-eqb, ne_eqb}
use Rattle.spec.specs.Machine.{with_s}
use Rattle.spec.specs.Listed.{pred_of}
use Rattle.spec.specs.Lines.{line_15}
use Rattle.laws.specs.StepAt.{step_table, here}
use Rattle.lines.proofs.Giving.{refuses_8, goes}
use Rattle.lines_contains.proofs.line15.Goals as goal
use Rattle.lines_contains.proofs.line15.Goals.{then-p-eq0, else-p-eq0}

pub returns-then-c-eq0 : goal.returns-then-c-eq0
unfolding step_table
returns-then-c-eq0 c = λ bs. refuses_8 _ _ 15 c.requires.1 (here c.if-c-eq0.true) c.refused.ensures

pub returns : goal.returns
unfolding step_table line_15 pred_of with_s
returns c = λ bs.
    goes _ _ 15 c.requires.1 c.if-c-eq0.false tt c.go.ensures.1
    (c.go.ensures.0 _ bs ∙ rw (← c.pred_of-p.ensures) (elim c.if-p-eq0.branch [
      | then-p-eq0 w ↦ rw (w.l-is, eq-eqb _ _ w.if-p-eq0.true)
      | else-p-eq0 w ↦ rw (w.l-is, ne_eqb _ _ w.if-p-eq0.false)
    ]))
