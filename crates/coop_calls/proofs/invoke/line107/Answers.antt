-- `coop_calls::invoke::line107` meets its contract.
use Rattle.std.proofs.Common.{refl, sym, ap, ◌∙◌, []}
use Rattle.spec.specs.Lists.{member}
use Rattle.coop_spec.specs.Lines.{find_line, all_lines, line_107}
use Rattle.coop_spec.specs.Machine.{machine_of}
use Rattle.laws.specs.Tests.{if_true, if_false}
use Rattle.coop_spec.specs.declared.Answer.TheVariants.{No}
use Rattle.coop_spec.specs.Lines.{own_done, returns_true, answers}
use Rattle.coop_spec.specs.Entries.{accept}
use Rattle.coop_lines.proofs.Laws.{plain}
use Rattle.coop_calls.proofs.invoke.line107.Goals as goal

pub returns-then-own_done : goal.returns-then-own_done
unfolding member find_line all_lines line_107
returns-then-own_done c =
    let a = c.args in
    λ vs.
    let y = machine_of a.s vs in
    let d = sym (c.own_done.ensures vs) ∙ c.if-own_done.true in
    let e = ap (accept y a.k a.c.own) (if_true (own_done y a.c) (returns_true a.c []) (answers No) d) in
    c.end_true.ensures vs ∙ sym (plain y a.k a.c 107 c.requires refl ∙ e)

pub returns : goal.returns
unfolding member find_line all_lines line_107
returns c =
    let a = c.args in
    λ vs.
    let y = machine_of a.s vs in
    let d = sym (c.own_done.ensures vs) ∙ c.if-own_done.false in
    let e = ap (accept y a.k a.c.own) (if_false (own_done y a.c) (returns_true a.c []) (answers No) d) in
    c.end.ensures vs ∙ sym (plain y a.k a.c 107 c.requires refl ∙ e)
