use Rattle.std.proofs.Common.{◌∙◌}
use Rattle.spec.specs.Machine.{with_m}
use Rattle.spec.specs.Listed.{size_of, place_of}
use Rattle.spec.specs.Lines.{line_43}
use Rattle.laws.specs.StepAt.{step_table, here}
use Rattle.lines.proofs.Giving.{refuses_8, goes}
use Rattle.lines_gather.proofs.line43.Goals as goal

pub returns-then-c-eq0 : goal.returns-then-c-eq0
unfolding step_table
returns-then-c-eq0 c = λ bs. refuses_8 _ _ 43 c.requires.1 (here c.if-c-eq0.true) c.refused.ensures

pub returns : goal.returns
unfolding step_table line_43 place_of size_of with_m
returns c = λ bs.
    goes _ _ 43 c.requires.1 c.if-c-eq0.false tt c.go.ensures.1
    (c.go.ensures.0 _ bs ∙ rw (c.place_of-m.ensures, c.remainder-i.ensures, c.size_of.ensures))
