-- `coop_calls::invoke::line101` meets its contract: by the prio of the task's operation.
use Rattle.std.proofs.Common.{refl, sym, ◌∙◌}
use Rattle.spec.specs.Lists.{member}
use Rattle.coop_spec.specs.Machine.{machine_of}
use Rattle.coop_spec.specs.Lines.{find_line, all_lines, line_101}
use Rattle.coop_lines.proofs.Laws.{plain}
use Rattle.coop_calls.proofs.invoke.line101.Goals as goal

pub returns-then-own_done : goal.returns-then-own_done
unfolding member find_line all_lines line_101
returns-then-own_done c =
    let a = c.args in
    λ vs.
    let y = machine_of a.s vs in
    let at = plain y a.k a.c 101 c.requires refl in
    let done = sym (c.own_done.ensures vs) ∙ c.if-own_done.true in
    rw (at, done) (c.go_line.ensures vs)

pub returns : goal.returns
unfolding member find_line all_lines line_101
returns c =
    let a = c.args in
    λ vs.
    let y = machine_of a.s vs in
    let at = plain y a.k a.c 101 c.requires refl in
    let not_done = sym (c.own_done.ensures vs) ∙ c.if-own_done.false in
    rw (at, not_done) (c.go_with.ensures vs)
