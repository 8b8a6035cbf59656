use Rattle.std.proofs.Common.{sym, ◌∙◌, arith}
use Rattle.spec.specs.Machine.{machine_of}
use Rattle.spec.specs.Held.{held_nodes, free_node}
use Rattle.held_marks.proofs.Laws.{none, onto}
use Rattle.held.proofs.Taking.{node_in, node_head_past, nodes_past, node_last_past}
use Rattle.held.proofs.free_node_of.Goals as goal
use Rattle.held.proofs.free_node_of.Goals.{then-s-ge-MOST_NODES-via-then-s-ge-MOST_NODES, then-s-ge-MOST_NODES-via-else-s-ge-MOST_NODES+then-h-gt-MOST_NODES, then-s-ge-MOST_NODES-via-else-s-ge-MOST_NODES+else-h-gt-MOST_NODES+then-h-last}

pub returns-then-s-ge-MOST_NODES : goal.returns-then-s-ge-MOST_NODES
returns-then-s-ge-MOST_NODES c = λ bs.
    let y = machine_of c.args.s c.args.ns.now bs in
    elim c.then-s-ge-MOST_NODES.branch [
      | then-s-ge-MOST_NODES-via-then-s-ge-MOST_NODES w ↦ sym (node_head_past y w.if-s-ge-MOST_NODES.true)
      | then-s-ge-MOST_NODES-via-else-s-ge-MOST_NODES+then-h-gt-MOST_NODES w ↦ sym (nodes_past y w.if-h-gt-MOST_NODES.true)
      | then-s-ge-MOST_NODES-via-else-s-ge-MOST_NODES+else-h-gt-MOST_NODES+then-h-last w ↦ sym (node_last_past y w.if-h-last.true)
    ]

pub returns : goal.returns
unfolding free_node
returns c = λ bs.
    let y = machine_of c.args.s c.args.ns.now bs in
    c.first_unmarked.ensures (held_nodes y) (onto (none 64) (c.mark_nodes.ensures bs)) ∙ sym (node_in y (omega arith, omega arith, omega arith))
