-- `coop_calls::has_member::line113` meets its contract: refused where o is empty, else by its operation or its set.
use Rattle.std.proofs.Common.{refl, ap, ◌∙◌, Bool, arith}
use Rattle.spec.specs.Lists.{member}
use Rattle.coop_spec.specs.declared.Answer.{Answer}
use Rattle.coop_spec.specs.Machine.{machine_of}
use Rattle.coop_spec.specs.Words.{tags_of}
use Rattle.coop_spec.specs.Lines.{yes_no, answers, find_line, all_lines, line_113}
use Rattle.coop_spec.specs.Entries.{accept}
use Rattle.coop_lines.proofs.Laws.{through, empty_o, filled_o}
use Rattle.coop_calls.proofs.has_member.line113.Goals as goal

pub returns-then-c-eq0 : goal.returns-then-c-eq0
unfolding member find_line all_lines line_113 tags_of
returns-then-c-eq0 c =
    let a = c.args in
    let vs = a.vs.now in
    let y = machine_of a.s vs in
    let at = through y a.k a.c 113 c.requires.0 refl refl in
    rw (at, empty_o y a.k a.c _ c.if-c-eq0.true) (c.refused.ensures vs)

pub returns-then-m-op : goal.returns-then-m-op
unfolding member find_line all_lines line_113 tags_of
returns-then-m-op c =
    let a = c.args in
    let vs = a.vs.now in
    let y = machine_of a.s vs in
    let r = ap (λ (x : Answer). accept y a.k a.c.own (answers x)) c.yes_no.ensures in
    let at = through y a.k a.c 113 c.requires.0 refl refl in
    rw (at, filled_o y a.k a.c _ c.if-c-eq0.false)
    (c.end.ensures vs ∙ r
    ∙ rw (← c.op_word-m.ensures a.s, ← c.op_number.ensures, ← c.operation-op.ensures vs, c.if-m-op.true))

pub has-requires : goal.has-requires
has-requires c =
    let o = c.if-c-eq0.false in
    c.requires.1.o_tagged (omega arith)

pub returns : goal.returns
unfolding member find_line all_lines line_113 tags_of
returns c =
    let a = c.args in
    let vs = a.vs.now in
    let y = machine_of a.s vs in
    let h = c.yes_no-2.ensures ∙ ap (λ (b : Bool). yes_no b) c.has.ensures in
    let r = ap (λ (x : Answer). accept y a.k a.c.own (answers x)) h in
    let at = through y a.k a.c 113 c.requires.0 refl refl in
    rw (at, filled_o y a.k a.c _ c.if-c-eq0.false)
    (c.end-2.ensures vs ∙ r
    ∙ rw (← c.op_word-m.ensures a.s, ← c.op_number.ensures, ← c.operation-op.ensures vs, c.if-m-op.false))
