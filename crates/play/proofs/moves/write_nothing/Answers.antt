-- `play::moves::write_nothing` meets its contract. Assumes nothing.
use Rattle.spec.specs.Machine.{machine_of}
use Rattle.play.proofs.MovesMade.{by_nothing}
use Rattle.play.proofs.moves.write_nothing.Goals as goal

pub returns : goal.returns
returns c =
    let a = c.args in
    by_nothing (machine_of a.s a.ns.now a.bs.now) _ c.requires c.keep-kept.result c.keep-kept.ensures a.next
