-- `coop_helpers::do_freeze::line127` meets its contract: an invoke goes on, a freeze ends.
use Rattle.std.proofs.Common.{refl, sym, ◌∙◌}
use Rattle.spec.specs.Lists.{member}
use Rattle.coop_spec.specs.Machine.{machine_of}
use Rattle.coop_spec.specs.Lines.{find_line, all_lines, line_127}
use Rattle.coop_lines.proofs.Laws.{plain}
use Rattle.coop_helpers.proofs.do_freeze.line127.Goals as goal

pub returns-then-is_invoke : goal.returns-then-is_invoke
unfolding member find_line all_lines line_127
returns-then-is_invoke c =
    let a = c.args in
    λ vs.
    let at = plain (machine_of a.s vs) a.k a.c 127 c.requires refl in
    rw (at, sym c.is_invoke.ensures ∙ c.if-is_invoke.true) (c.go_line.ensures vs)

pub returns : goal.returns
unfolding member find_line all_lines line_127
returns c =
    let a = c.args in
    λ vs.
    let at = plain (machine_of a.s vs) a.k a.c 127 c.requires refl in
    rw (at, sym c.is_invoke.ensures ∙ c.if-is_invoke.false) (c.end.ensures vs)
