-- `coop_helpers::help_finish::line130` meets its contract: refused where o is empty, else by whether it has an operation.
use Rattle.std.proofs.Common.{refl, le-leb}
use borrow.Author.Tests.{lt-leb}
use Rattle.spec.specs.Lists.{member}
use Rattle.coop_spec.specs.Machine.{machine_of, to_finish}
use Rattle.coop_spec.specs.Lines.{find_line, all_lines, line_130}
use Rattle.coop_lines.proofs.Laws.{through, empty_o, filled_o}
use Rattle.coop_helpers.proofs.help_finish.line130.Goals as goal

pub returns-then-c-eq0 : goal.returns-then-c-eq0
unfolding member find_line all_lines line_130
returns-then-c-eq0 c =
    let a = c.args in
    let vs = a.vs.now in
    let y = machine_of a.s vs in
    let at = through y a.k a.c 130 c.requires refl refl in
    rw (at, empty_o y a.k a.c _ c.if-c-eq0.true) (c.refused.ensures vs)

pub returns-then-m-ge2 : goal.returns-then-m-ge2
unfolding member find_line all_lines line_130 to_finish
returns-then-m-ge2 c =
    let a = c.args in
    let vs = a.vs.now in
    let y = machine_of a.s vs in
    let at = through y a.k a.c 130 c.requires refl refl in
    rw (at, filled_o y a.k a.c _ c.if-c-eq0.false, ← c.op_word-m.ensures a.s, le-leb _ _ c.if-m-ge2.true) (c.go.ensures vs)

pub returns : goal.returns
unfolding member find_line all_lines line_130
returns c =
    let a = c.args in
    let vs = a.vs.now in
    let y = machine_of a.s vs in
    let at = through y a.k a.c 130 c.requires refl refl in
    rw (at, filled_o y a.k a.c _ c.if-c-eq0.false, ← c.op_word-m.ensures a.s, lt-leb _ _ c.if-m-ge2.false) (c.return_to.ensures vs)
