-- What `fill` makes of the bytes at hand.
use Rattle.stdio.proofs.Laws.{taken_as}
use Rattle.stdio.proofs.input.taken.Goals as goal

pub returns : goal.returns
returns c =
    let p = c.args.p in
    let f = c.fill-f in
    let g = c.given_by-given in
    taken_as p.line p.at p.end p.number c.args.n c.left_after.result p.reads c.args.room.now f.result c.requires.0 c.requires.1 f.ensures g.result
    g.ensures c.left_after.ensures
