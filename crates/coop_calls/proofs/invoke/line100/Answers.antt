-- `coop_calls::invoke::line100` meets its contract: as the lines that test o's operation.
use Rattle.std.proofs.Common.{refl, sym, ◌∙◌}
use Rattle.spec.specs.Lists.{member}
use Rattle.coop_spec.specs.Lines.{find_line, all_lines, line_100}
use Rattle.coop_spec.specs.Machine.{machine_of}
use Rattle.coop_lines.proofs.Laws.{through}
use Rattle.coop_calls.proofs.invoke.line100.Goals as goal

pub returns : goal.returns
unfolding member find_line all_lines line_100
returns c =
    let a = c.args in
    let vs = a.vs.now in
    c.test_op.ensures ∙ sym (through (machine_of a.s vs) a.k a.c 100 c.requires refl refl)
