-- `coop_calls::line109` meets its contract: the flag is raised, and the task goes on.
use Rattle.std.proofs.Common.{refl, sym, ap, ◌∙◌}
use Rattle.spec.specs.Lists.{member}
use Rattle.coop_spec.specs.Machine.{Machine, machine_of, to_line}
use Rattle.coop_spec.specs.Words.{apply, apply_all}
use Rattle.coop_spec.specs.Lines.{moves, find_line, all_lines, line_109}
use Rattle.coop_spec.specs.Entries.{accept}
use Rattle.coop_lines.proofs.Laws.{plain}
use Rattle.coop_calls.proofs.line109.Goals as goal

pub returns : goal.returns
unfolding member find_line all_lines line_109 accept apply_all apply
returns c =
    let a = c.args in
    λ vs.
    let raised = ap (λ (z : Machine). accept z a.k a.c.own (moves (to_line 120 a.c))) (c.with_flag.ensures vs) in
    c.go_line.ensures vs ∙ raised ∙ sym (plain (machine_of a.s vs) a.k a.c 109 c.requires refl)
