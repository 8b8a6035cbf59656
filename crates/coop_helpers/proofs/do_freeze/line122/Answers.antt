-- `coop_helpers::do_freeze::line122` meets its contract: as the lines that test o's operation.
use Rattle.std.proofs.Common.{refl, sym, ◌∙◌}
use Rattle.spec.specs.Lists.{member}
use Rattle.coop_spec.specs.Lines.{find_line, all_lines, line_122}
use Rattle.coop_spec.specs.Machine.{machine_of}
use Rattle.coop_lines.proofs.Laws.{through}
use Rattle.coop_helpers.proofs.do_freeze.line122.Goals as goal

pub returns : goal.returns
unfolding member find_line all_lines line_122
returns c =
    let a = c.args in
    let vs = a.vs.now in
    c.test_op.ensures ∙ sym (through (machine_of a.s vs) a.k a.c 122 c.requires refl refl)
