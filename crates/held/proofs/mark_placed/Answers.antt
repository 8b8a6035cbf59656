use Rattle.std.proofs.Common.{ap, arith}
use Rattle.spec.specs.Lists.{concat_map}
use Rattle.spec.specs.Words.{places}
use Rattle.held_marks.proofs.Laws.{finish}
use Rattle.held.specs.Held.{marked_numbers}
use Rattle.held.proofs.Laws.{numbers_from, numbers_all, numbers_none, placed_yes, placed_no}
use Rattle.held.proofs.mark_placed.Goals as goal
use Rattle.held.proofs.mark_placed.Goals.{then-nodes-k, else-nodes-k}

pub loop-k-init : goal.loop-k-init
loop-k-init c = λ q. rw (numbers_all c.args.nodes) (λ r. r)

pub loop-k-preserved : goal.loop-k-preserved
loop-k-preserved c =
    let w = c.args.ns.now in
    let d = c.args.nodes in
    let ls = concat_map (places w) (marked_numbers d) in
    let k = c.loop-k.k in
    elim c.if-nodes-k.branch [
      | then-nodes-k t ↦ placed_yes d w k ls c.loop-k-test.true t.if-nodes-k.true c.loop-k.invariant t.mark_places.ensures t.m-is
      | else-nodes-k t ↦ placed_no d w k ls c.loop-k-test.true t.if-nodes-k.false c.loop-k.invariant t.m-is
    ]

pub returns : goal.returns
unfolding concat_map
returns c =
    let w = c.args.ns.now in
    let d = c.args.nodes in
    let k = c.loop-k.k in
    finish (concat_map (places w) (numbers_from d k)) _ (ap (concat_map (places w)) (numbers_none d k (omega arith))) c.loop-k.invariant
