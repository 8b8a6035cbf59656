-- The opening over the part of the pools, put back into the whole of them.
use Rattle.session_machine.proofs.Laws.{opens}
use Rattle.session_machine.proofs.open.Goals as goal

pub returns : goal.returns
returns c =
    let a = c.args in
    let n = c.node_extent-a in
    let b = c.bucket_extent-b in
    let o = c.«open» in
    opens a.h a.ns.now a.bs.now n.result b.result n.ensures.0 b.ensures.0 o.result _ _ o.ensures.0 o.ensures.1
