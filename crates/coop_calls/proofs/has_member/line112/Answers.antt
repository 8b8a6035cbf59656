-- `coop_calls::has_member::line112` meets its contract: as the lines that read the bucket's version.
use Rattle.std.proofs.Common.{refl, sym, ◌∙◌}
use Rattle.spec.specs.Lists.{member}
use Rattle.coop_spec.specs.Lines.{find_line, all_lines, line_112}
use Rattle.coop_spec.specs.Machine.{machine_of}
use Rattle.coop_lines.proofs.Laws.{plain}
use Rattle.coop_calls.proofs.has_member.line112.Goals as goal

pub returns : goal.returns
unfolding member find_line all_lines line_112
returns c =
    let a = c.args in
    λ vs. c.read_node.ensures vs ∙ sym (plain (machine_of a.s vs) a.k a.c 112 c.requires.0 refl)
