use Rattle.std.proofs.Common.{◌≡◌, ◌∙◌, ◌-◌, arith}
use Rattle.spec.specs.Lists.{member}
use Rattle.spec.specs.Words.{tags}
use Rattle.spec.specs.Listed.{tags_of}
use Rattle.spec.specs.Lines.{line_18}
use Rattle.laws.specs.StepAt.{step_table, here}
use Rattle.pool.proofs.At.{found_here}
use Rattle.lines.proofs.Giving.{refuses_8, goes}
use Rattle.lines_contains.proofs.line18.Goals as goal
use Rattle.lines_contains.proofs.line18.Goals.{then-has_at, else-has_at}

pub returns-in_default : goal.returns-in_default
unfolding step_table
returns-in_default c = λ ns. refuses_8 _ _ 18 c.requires.1 (here (omega (arith, c.in_default.ensures))) c.refused.ensures

pub returns : goal.returns
unfolding step_table line_18 tags_of
returns c = λ ns.
    let a = c.args in
    let h = c.in-Some.ensures in
    let is : c.in-Some.j ≡ a.c.b - 1 = omega (arith, h) in
    let has : c.has_at.result ≡ member a.c.tag (tags a.bs.now (a.c.b - 1)) =
    c.has_at.ensures ∙ rw is (found_here a.bs.now (a.c.b - 1) (c.requires.4 (omega (arith, h))) (omega (arith, h)) a.c.tag) in
    goes _ _ 18 c.requires.1 (λ z. omega (arith, h, z)) tt c.end.ensures.1
    (c.end.ensures.0 ns _ ∙ rw (← has) (elim c.if-has_at.branch [
      | then-has_at w ↦ rw (w.a-is, w.if-has_at.true)
      | else-has_at w ↦ rw (w.a-is, w.if-has_at.false)
    ]))
