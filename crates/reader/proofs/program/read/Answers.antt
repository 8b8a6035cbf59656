-- `reader::program::read` meets its contract. Each call for a line keeps `Reading`. Assumes nothing.
use Rattle.std.proofs.Math.Path.{refl}
use Rattle.std.proofs.Common.{◌∙◌}
use Rattle.stdio.specs.Loops.{turn_left}
use Rattle.reader.proofs.Programs.{starts, turns}
use Rattle.reader.proofs.program.read.Goals as goal

pub loop-p-init : goal.loop-p-init
loop-p-init g c = (starts _ _ _ _ _ _ c.begin-p.ensures c.new_reader-r.ensures c.requires.0 c.requires.1, refl, refl, refl)

pub next_line-q-requires : goal.next_line-q-requires
next_line-q-requires g c = c.loop-p.invariant.0.follows.fits

pub take_given-r-requires : goal.take_given-r-requires
take_given-r-requires g c = c.loop-p.invariant.0.known

pub loop-p-smaller : goal.loop-p-smaller
loop-p-smaller g c =
    let l = c.loop-p in
    turn_left l.p l.room c.next_line-q.result _ _ c.settle-p.result c.loop-p-test.true c.next_line-q.ensures c.settle-p.ensures

pub loop-p-preserved : goal.loop-p-preserved
loop-p-preserved g c =
    let n = c.next_line-q in
    let t = c.take_given-r in
    let l = c.loop-p in (
      turns _ _ l.p l.room l.r l.ns l.bs l.invariant.0 c.loop-p-test.true n.result _ n.ensures t.result _ _ _ c.settle-p.result
          t.ensures c.is_decided.ensures c.settle-p.ensures,
      n.auto.room ∙ l.invariant.1,
      t.auto.ns ∙ l.invariant.2,
      t.auto.bs ∙ l.invariant.3,
    )

pub returns : goal.returns
returns g c = record { reading = c.loop-p.invariant.0; left_bound = c.loop-p-test.false }
