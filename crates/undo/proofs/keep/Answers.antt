use Rattle.std.proofs.Common.{◌∙◌}
use Rattle.spec.specs.Machine.{machine_of}
use Rattle.undo.proofs.Laws.{kept_is, node_record}
use Rattle.undo.proofs.keep.Goals as goal

pub returns : goal.returns
returns c =
    let a = c.args in
    let bs = a.bs.now in
    kept_is (machine_of a.s a.ns.now bs) a.c (c.written_node-node.ensures bs) (c.record.ensures ∙ node_record _ _)
    (c.written_bucket-bucket.ensures bs) c.load.ensures
