-- `coop_calls::invoke::line96` meets its contract.
use Rattle.std.proofs.Common.{refl, sym, ◌∙◌}
use Rattle.spec.specs.Lists.{member}
use Rattle.coop_spec.specs.Lines.{find_line, all_lines, line_96}
use Rattle.coop_spec.specs.Machine.{machine_of}
use Rattle.coop_lines.proofs.Laws.{plain}
use Rattle.coop_calls.proofs.invoke.line96.Goals as goal

pub returns : goal.returns
unfolding member find_line all_lines line_96
returns c =
    let a = c.args in
    λ vs. c.choose.ensures vs ∙ sym (plain (machine_of a.s vs) a.k a.c 96 c.requires refl)
