-- `coop_helpers::do_freeze::line120` meets its contract.
use Rattle.std.proofs.Common.{refl, sym, ◌∙◌}
use Rattle.spec.specs.Lists.{member}
use Rattle.coop_spec.specs.Lines.{find_line, all_lines, line_120}
use Rattle.coop_spec.specs.Machine.{machine_of}
use Rattle.coop_lines.proofs.Laws.{plain}
use Rattle.coop_helpers.proofs.do_freeze.line120.Goals as goal

pub returns : goal.returns
unfolding member find_line all_lines line_120
returns c =
    let a = c.args in
    let vs = a.vs.now in
    c.choose.ensures vs ∙ rw c.frozen.ensures (sym (plain (machine_of a.s vs) a.k a.c 120 c.requires refl))
