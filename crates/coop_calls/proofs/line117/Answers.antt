-- `coop_calls::line117` meets its contract.
use Rattle.std.proofs.Common.{refl, sym, ap, ◌∙◌}
use Rattle.spec.specs.Lists.{member}
use Rattle.coop_spec.specs.Lines.{find_line, all_lines, line_117}
use Rattle.coop_spec.specs.Machine.{machine_of}
use Rattle.coop_spec.specs.declared.Operation.{Operation}
use Rattle.coop_spec.specs.declared.Answer.{Answer}
use Rattle.coop_spec.specs.Lines.{yes_no, answers}
use Rattle.coop_spec.specs.Entries.{accept}
use Rattle.coop_lines.proofs.Laws.{plain}
use Rattle.coop_calls.proofs.line117.Goals as goal

pub returns : goal.returns
unfolding member find_line all_lines line_117
returns c =
    let a = c.args in
    λ vs.
    let y = machine_of a.s vs in
    let r = c.yes_no.ensures ∙ ap (λ (q : Operation). yes_no q.resp) (c.operation-resp.ensures vs) in
    c.end.ensures vs ∙ ap (λ (x : Answer). accept y a.k a.c.own (answers x)) r ∙ sym (plain (machine_of a.s vs) a.k a.c 117 c.requires refl)
