-- `coop_calls::invoke::line95` meets its contract.
use Rattle.std.proofs.Common.{refl, sym, ◌∙◌}
use Rattle.spec.specs.Lists.{member}
use Rattle.coop_spec.specs.Lines.{find_line, all_lines, line_95}
use Rattle.coop_spec.specs.Machine.{machine_of}
use Rattle.coop_lines.proofs.Laws.{plain}
use Rattle.coop_calls.proofs.invoke.line95.Goals as goal

pub returns : goal.returns
unfolding member find_line all_lines line_95
returns c =
    let a = c.args in
    let vs = a.vs.now in
    c.choose.ensures vs
    ∙ rw (c.frozen.ensures, c.own_done.ensures vs) (sym (plain (machine_of a.s vs) a.k a.c 95 c.requires refl))
