use Rattle.std.proofs.Common.{◌-◌, ◌∙◌}
use borrow.Author.Tests.{eq-eqb, ne_eqb}
use Rattle.spec.specs.Machine.{with_state, with_head, state_head}
use Rattle.spec.specs.Words.{apply}
use Rattle.spec.specs.Listed.{head_of}
use Rattle.spec.specs.Entries.{accept}
use Rattle.spec.specs.Lines.{line_28}
use Rattle.laws.specs.StepAt.{step_table, here, next}
use Rattle.lines.proofs.Settling.{over_head}
use Rattle.lines.proofs.Giving.{refuses_8, goes}
use Rattle.lines_resize.proofs.line28.Goals as goal
use Rattle.lines_resize.proofs.line28.Goals.{then-c-eq0-via-then-c-eq0, then-c-eq0-via-else-c-eq0+then-c-eq0-2}

pub returns-then-c-eq0 : goal.returns-then-c-eq0
unfolding step_table
returns-then-c-eq0 c = λ ns bs. elim c.then-c-eq0.branch [
  | then-c-eq0-via-then-c-eq0 w ↦ refuses_8 _ _ 28 c.requires.1 (here w.if-c-eq0.true) c.refused.ensures
  | then-c-eq0-via-else-c-eq0+then-c-eq0-2 w ↦ refuses_8 _ _ 28 c.requires.1 (next (here w.if-c-eq0-2.true)) c.refused.ensures
]

pub returns-then-s-c : goal.returns-then-s-c
unfolding step_table line_28 head_of accept apply with_head with_state state_head
returns-then-s-c c = λ ns bs.
    let a = c.args in
    goes _ _ 28 c.requires.1 (c.if-c-eq0.false, c.if-c-eq0-2.false) tt c.end.ensures.1
    (over_head (a.c.new_node - 1) a.s a.k c.end.result ns bs c.end.ensures.1 (c.end.ensures.0 ns bs) ∙ rw (eq-eqb _ _ c.if-s-c.true))

pub returns : goal.returns
unfolding step_table line_28 head_of
returns c = λ ns bs.
    goes _ _ 28 c.requires.1 (c.if-c-eq0.false, c.if-c-eq0-2.false) tt c.end-2.ensures.1
    (c.end-2.ensures.0 ns bs ∙ rw (ne_eqb _ _ c.if-s-c.false))
