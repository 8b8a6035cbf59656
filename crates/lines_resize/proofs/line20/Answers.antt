use Rattle.std.proofs.Common.{sym, ◌∙◌}
use Rattle.spec.specs.Machine.{with_t, with_i, machine_of}
use Rattle.spec.specs.Listed.{size_of, head_of}
use Rattle.spec.specs.Lines.{line_20}
use Rattle.laws.specs.StepAt.{step_table}
use Rattle.lines.proofs.Giving.{goes}
use Rattle.lines_resize.proofs.line20.Goals as goal

pub returns-then-at_limit : goal.returns-then-at_limit
unfolding step_table line_20 head_of size_of with_t with_i
returns-then-at_limit c = λ bs.
    let a = c.args in
    let limit = sym c.at_limit.ensures ∙ c.if-at_limit.true in
    goes (machine_of a.s a.ns.now bs) a.c 20 c.requires.1 tt tt c.end.ensures.1 (c.end.ensures.0 _ bs ∙ rw (← c.size_of-z.ensures, limit))

pub returns : goal.returns
unfolding step_table line_20 head_of size_of with_t with_i
returns c = λ bs.
    let a = c.args in
    let limit = sym c.at_limit.ensures ∙ c.if-at_limit.false in
    goes (machine_of a.s a.ns.now bs) a.c 20 c.requires.1 tt tt c.go.ensures.1 (c.go.ensures.0 _ bs ∙ rw (← c.size_of-z.ensures, limit))
