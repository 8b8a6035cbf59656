use Rattle.std.proofs.Common.{◌+◌, refl, sym, ◌∙◌}
use Rattle.spec.specs.Machine.{machine_of}
use Rattle.spec.specs.Listed.{size_of}
use Rattle.spec.specs.Lines.{line_47}
use Rattle.laws.specs.StepAt.{step_table, here, through, tested_past, tested_at}
use Rattle.lines.proofs.Giving.{gives_as, refuses_8}
use Rattle.lines_gather.specs.Places.{with_field, place_tests}
use Rattle.lines_gather.proofs.line47.Goals as goal

pub returns-then-c-eq0 : goal.returns-then-c-eq0
unfolding step_table
returns-then-c-eq0 c = λ bs. refuses_8 _ _ 47 c.requires.1 (here c.if-c-eq0.true) c.refused.ensures

pub returns : goal.returns
unfolding step_table line_47 with_field size_of
returns c = λ bs.
    let a = c.args in
    let y = machine_of a.s a.ns.now bs in
    let past = tested_past (through a.c.t) (place_tests y a.c.s (a.c.i + size_of y a.c.t)) y a.k a.c _ c.if-c-eq0.false in
    gives_as (rw c.size_of.ensures (sym (tested_at y a.c 47 c.requires.1 a.k refl ∙ past))) (c.read_place.ensures bs)
