use Rattle.std.proofs.Common.{◌+◌, ◌-◌, ap, ◌∙◌, length, length-append, arith}
use Rattle.listing_place.specs.PlaceTags.{tags_at}
use Rattle.listing.specs.Listing.{tags_from}
use Rattle.listing.proofs.Laws.{places_on, places_none}
use Rattle.listing.proofs.count_node.Goals as goal

pub loop-j-preserved : goal.loop-j-preserved
loop-j-preserved c =
    let a = c.args in
    let n = a.n.now in
    let j = c.loop-j.j in
    let xs = tags_at n j in
    let ys = tags_from n (j + 1) (32 - (j + 1)) in
    let e = ap length (places_on n.config n.nodes.now n.buckets.now n.head n.node n.old j (omega arith)) ∙ length-append xs ys in
    (omega arith, omega arith)

pub returns : goal.returns
returns c =
    let a = c.args in
    let n = a.n.now in
    let e = ap length (places_none n.config n.nodes.now n.buckets.now n.head n.node n.old c.loop-j.j (omega arith)) in
    (omega arith, omega arith)
