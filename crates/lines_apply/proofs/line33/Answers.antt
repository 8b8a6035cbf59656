use Rattle.std.proofs.Common.{refl, sym}
use Rattle.spec.specs.Machine.{machine_of}
use Rattle.spec.specs.Listed.{size_of}
use Rattle.spec.specs.Lines.{line_33}
use Rattle.laws.specs.StepAt.{step_table, tested_at}
use Rattle.lines.proofs.Giving.{gives_as}
use Rattle.lines_contains.specs.Reads.{reads_bucket}
use Rattle.lines_apply.proofs.line33.Goals as goal

pub returns : goal.returns
unfolding step_table line_33 reads_bucket size_of
returns c = λ bs.
    let a = c.args in
    gives_as (rw (c.slot-i.ensures, c.size_of.ensures) (sym (tested_at (machine_of a.s a.ns.now bs) a.c 33 c.requires.1 a.k refl)))
    (c.read_bucket.ensures bs)
