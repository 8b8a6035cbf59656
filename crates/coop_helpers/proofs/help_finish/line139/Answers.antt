-- `coop_helpers::help_finish::line139` meets its contract: refused where the helped operation is empty, else it is done.
use Rattle.std.proofs.Common.{refl, ap, ◌∙◌, ℕ}
use Rattle.spec.specs.Lists.{member}
use Rattle.coop_spec.specs.Machine.{Machine, machine_of, to_line_with}
use Rattle.coop_spec.specs.Words.{set_done, apply, apply_all}
use Rattle.coop_spec.specs.Lines.{moves, find_line, all_lines, line_139}
use Rattle.coop_spec.specs.Entries.{accept}
use Rattle.coop_lines.proofs.Laws.{empty_helped, filled_helped}
use Rattle.coop_helpers.proofs.help_finish.line139.Goals as goal

pub returns-then-c-eq0 : goal.returns-then-c-eq0
unfolding member find_line all_lines line_139
returns-then-c-eq0 c =
    let a = c.args in
    λ vs.
    rw (empty_helped (machine_of a.s vs) a.k a.c 139 c.requires refl refl c.if-c-eq0.true) (c.refused.ensures vs)

pub returns : goal.returns
unfolding member find_line all_lines line_139 accept apply_all
returns c =
    let a = c.args in
    λ vs.
    let y = machine_of a.s vs in
    let stored = c.set_done-t.ensures vs ∙ ap (λ (n : ℕ). apply (set_done n) y) c.number_of-n.ensures in
    rw (filled_helped y a.k a.c 139 c.requires refl refl c.if-c-eq0.false)
    (c.go_with.ensures vs ∙ ap (λ (z : Machine). accept z a.k a.c.own (moves (to_line_with 140 a.c.o a.c))) stored)
