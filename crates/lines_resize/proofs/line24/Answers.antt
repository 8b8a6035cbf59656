use Rattle.std.proofs.Common.{◌≡◌, ◌-◌, ◌∙◌, arith}
use Rattle.spec.specs.Machine.{with_nodes}
use Rattle.spec.specs.Words.{apply}
use Rattle.spec.specs.Lines.{line_24}
use Rattle.spec.specs.Entries.{accept}
use Rattle.laws.specs.StepAt.{step_table, here}
use Rattle.lines.proofs.Giving.{refuses_8, goes}
use Rattle.lines_resize.proofs.line24.Goals as goal

pub returns-in_default : goal.returns-in_default
unfolding step_table
returns-in_default c = λ bs. refuses_8 _ _ 24 c.requires.1 (here (omega (arith, c.in_default.ensures))) c.refused.ensures

pub returns : goal.returns
unfolding step_table line_24 accept apply with_nodes
returns c = λ bs.
    let h = c.in-Some.ensures in
    let is : c.in-Some.t ≡ c.args.c.t - 1 = omega (arith, h) in
    goes _ _ 24 c.requires.1 (λ z. omega (arith, h, z)) tt c.go.ensures.1 (c.go.ensures.0 _ bs ∙ rw (c.put.ensures, is))
