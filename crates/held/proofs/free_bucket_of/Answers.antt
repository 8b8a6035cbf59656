use Rattle.std.proofs.Common.{sym, ◌∙◌, arith}
use mathlib.Core.List.{◌++◌}
use Rattle.held.specs.Held.{marked_numbers, placed_low}
use Rattle.spec.specs.Machine.{machine_of}
use Rattle.spec.specs.Lists.{concat_map}
use Rattle.spec.specs.Words.{places}
use Rattle.spec.specs.Held.{task_buckets}
use Rattle.held_marks.proofs.Laws.{none, onto}
use Rattle.held.proofs.Taking.{exactly_alike, append_alike, same_places, bucket_in, bucket_head_past, buckets_past, bucket_last_past}
use Rattle.held.proofs.free_bucket_of.Goals as goal
use Rattle.held.proofs.free_bucket_of.Goals.{then-s-ge-MOST_NODES-via-then-s-ge-MOST_NODES, then-s-ge-MOST_NODES-via-else-s-ge-MOST_NODES+then-b-gt-MOST_BUCKETS, then-s-ge-MOST_NODES-via-else-s-ge-MOST_NODES+else-b-gt-MOST_BUCKETS+then-b-last}

pub returns-then-s-ge-MOST_NODES : goal.returns-then-s-ge-MOST_NODES
returns-then-s-ge-MOST_NODES c = λ bs.
    let y = machine_of c.args.s c.args.ns.now bs in
    elim c.then-s-ge-MOST_NODES.branch [
      | then-s-ge-MOST_NODES-via-then-s-ge-MOST_NODES w ↦ sym (bucket_head_past y w.if-s-ge-MOST_NODES.true)
      | then-s-ge-MOST_NODES-via-else-s-ge-MOST_NODES+then-b-gt-MOST_BUCKETS w ↦ sym (buckets_past y w.if-b-gt-MOST_BUCKETS.true)
      | then-s-ge-MOST_NODES-via-else-s-ge-MOST_NODES+else-b-gt-MOST_BUCKETS+then-b-last w ↦ sym (bucket_last_past y w.if-b-last.true)
    ]

pub returns : goal.returns
returns c = λ bs.
    let y = machine_of c.args.s c.args.ns.now bs in
    let ts = concat_map task_buckets y.state.task in
    let nodes = onto (none 64) (c.mark_nodes.ensures bs) in
    let placed = onto (none 1024) c.mark_placed.ensures in
    let xs = concat_map (places y.nodes) (marked_numbers _) in
    let same = same_places y _ (c.mark_nodes.ensures bs).long nodes in
    let all = exactly_alike (xs ++ ts) (placed_low y ++ ts) (append_alike xs (placed_low y) ts same) (onto placed c.mark_own.ensures) in
    c.first_unmarked.ensures (placed_low y ++ ts) all ∙ sym (bucket_in y (omega arith, omega arith, omega arith))
