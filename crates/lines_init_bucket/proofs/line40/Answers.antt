use Rattle.std.proofs.Common.{◌∙◌}
use Rattle.spec.specs.Machine.{with_s}
use Rattle.spec.specs.Listed.{pred_of}
use Rattle.spec.specs.Lines.{line_40}
use Rattle.laws.specs.StepAt.{step_table, here}
use Rattle.lines.proofs.Giving.{refuses_8, goes}
use Rattle.lines_init_bucket.proofs.line40.Goals as goal

pub returns-then-c-eq0 : goal.returns-then-c-eq0
unfolding step_table
returns-then-c-eq0 c = λ bs. refuses_8 _ _ 40 c.requires.1 (here c.if-c-eq0.true) c.refused.ensures

pub returns : goal.returns
unfolding step_table line_40 pred_of with_s
returns c = λ bs.
    goes _ _ 40 c.requires.1 c.if-c-eq0.false tt c.go.ensures.1
    (c.go.ensures.0 _ bs ∙ rw (c.after_40.ensures c.args.s bs, c.pred_of-p.ensures))
