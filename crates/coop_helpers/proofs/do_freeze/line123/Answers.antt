-- `coop_helpers::do_freeze::line123` meets its contract: refused where o is empty, else by whether it has an operation.
use Rattle.std.proofs.Common.{refl, sym, ap, ◌∙◌, List, ℕ}
use Rattle.laws.specs.Tests.{if_true, if_false}
use Rattle.spec.specs.Lists.{member}
use Rattle.coop_spec.specs.Machine.{machine_of, with_versions, to_line}
use Rattle.coop_spec.specs.Words.{apply, apply_all}
use Rattle.coop_spec.specs.Lines.{moves, find_line, all_lines, line_123}
use Rattle.coop_spec.specs.Entries.{accept}
use Rattle.coop_lines.proofs.Laws.{through, empty_o, filled_o}
use Rattle.coop_helpers.proofs.do_freeze.line123.Goals as goal

pub returns-then-c-eq0 : goal.returns-then-c-eq0
unfolding member find_line all_lines line_123
returns-then-c-eq0 c =
    let a = c.args in
    let vs = a.vs.now in
    let y = machine_of a.s vs in
    let at = through y a.k a.c 123 c.requires refl refl in
    rw (at, empty_o y a.k a.c _ c.if-c-eq0.true) (c.refused.ensures vs)

pub returns-then-cas_op : goal.returns-then-cas_op
unfolding member find_line all_lines line_123 accept apply_all apply with_versions
returns-then-cas_op c =
    let a = c.args in
    let vs = a.vs.now in
    let y = machine_of a.s vs in
    let at = through y a.k a.c 123 c.requires refl refl in
    let had = sym (c.cas_op.ensures.0 a.s) ∙ c.if-cas_op.true in
    let words = c.cas_op.ensures.1 ∙ if_true _ _ _ c.if-cas_op.true in
    rw (at, filled_o y a.k a.c _ c.if-c-eq0.false, had)
    (c.go_line.ensures _ ∙ ap (λ (l : List ℕ). accept (machine_of a.s l) a.k a.c.own (moves (to_line 127 a.c))) words)

pub returns : goal.returns
unfolding member find_line all_lines line_123
returns c =
    let a = c.args in
    let vs = a.vs.now in
    let y = machine_of a.s vs in
    let at = through y a.k a.c 123 c.requires refl refl in
    let had = sym (c.cas_op.ensures.0 a.s) ∙ c.if-cas_op.false in
    let words = c.cas_op.ensures.1 ∙ if_false _ _ _ c.if-cas_op.false in
    rw (at, filled_o y a.k a.c _ c.if-c-eq0.false, had)
    (c.go_line-2.ensures _ ∙ ap (λ (l : List ℕ). accept (machine_of a.s l) a.k a.c.own (moves (to_line 120 a.c))) words)
