-- `play::moves::start_resize` meets its contract. Assumes nothing.
use Rattle.spec.specs.Machine.{machine_of}
use Rattle.play.proofs.MovesMade.{by_start}
use Rattle.play.proofs.moves.start_resize.Goals as goal

pub returns : goal.returns
returns c =
    let a = c.args in
    by_start (machine_of a.s a.ns.now a.bs.now) a.call c.start-d.result c.write_nothing.result c.start-d.ensures c.write_nothing.ensures
