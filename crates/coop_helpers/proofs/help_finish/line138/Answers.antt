-- `coop_helpers::help_finish::line138` meets its contract: refused through an empty place, else the response is stored.
use Rattle.std.proofs.Common.{refl, sym, ap, ◌∙◌, Bool, ℕ}
use borrow.Author.Tests.{not-true, not-false}
use Rattle.spec.specs.Lists.{member}
use Rattle.spec.specs.Words.{number}
use Rattle.coop_spec.specs.declared.Operation.{Operation}
use Rattle.coop_spec.specs.Machine.{Machine, machine_of, operation_of, to_line_with}
use Rattle.coop_spec.specs.Words.{tags_of, response, set_resp, apply, apply_all}
use Rattle.coop_spec.specs.Lines.{moves, old_set, find_line, all_lines, line_138}
use Rattle.coop_spec.specs.Entries.{accept}
use Rattle.coop_lines.proofs.Laws.{helping, empty_both, filled_both, above}
use Rattle.coop_helpers.proofs.help_finish.line138.Goals as goal

pub returns-then-not-both_filled : goal.returns-then-not-both_filled
unfolding member find_line all_lines line_138 tags_of
returns-then-not-both_filled c =
    let a = c.args in
    let missing = sym c.both_filled.ensures ∙ not-true _ c.if-not-both_filled.true-raw in
    let vs = a.vs.now in
    let y = machine_of a.s vs in
    let at = helping y a.k a.c 138 c.requires.0 refl refl in
    rw (at, empty_both y a.k a.c _ missing) (c.refused.ensures vs)

pub responds-requires : goal.responds-requires
responds-requires c =
    let both = sym c.both_filled.ensures ∙ not-false _ c.if-not-both_filled.false-raw in
    rw c.number_of-j.ensures (c.requires.1.o_tagged (above c.args.c.o _ both))

pub returns : goal.returns
unfolding member find_line all_lines line_138 tags_of accept apply_all
returns c =
    let a = c.args in
    let vs = a.vs.now in
    let y = machine_of a.s vs in
    let both = sym c.both_filled.ensures ∙ not-false _ c.if-not-both_filled.false-raw in
    let n = number a.c.helped in
    let ts = old_set y a.c in
    let helped = c.operation-op.ensures vs ∙ ap (operation_of y) c.number_of-n.ensures in
    let of-o = c.responds.ensures ∙ ap (λ (j : ℕ). response c.operation-op.result (tags_of y j)) c.number_of-j.ensures in
    let responds = of-o ∙ ap (λ (q : Operation). response q ts) helped in
    let stored = c.set_resp-t.ensures vs
    ∙ ap (λ (i : ℕ). apply (set_resp i c.responds.result) y) c.number_of-n.ensures
    ∙ ap (λ (b : Bool). apply (set_resp n b) y) responds in
    let at = helping y a.k a.c 138 c.requires.0 refl refl in
    rw (at, filled_both y a.k a.c _ both)
    (c.go_with.ensures vs ∙ ap (λ (z : Machine). accept z a.k a.c.own (moves (to_line_with 139 a.c.o a.c))) stored)
