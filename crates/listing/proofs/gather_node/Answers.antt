use Rattle.std.proofs.Common.{◌+◌, ◌-◌, ap, sym, ◌∙◌, arith}
use Rattle.std.proofs.lemmas.Result.{err_from_is_err_and}
use Rattle.std.specs.Prelude.{Ok, Err}
use Rattle.listing_place.specs.PlaceTags.{tags_at}
use Rattle.listing.specs.Listing.{tags_from, adds}
use Rattle.listing.proofs.Laws.{places_on, places_none, adds_none, adds_full, adds_then}
use Rattle.listing.proofs.gather_node.Goals as goal

pub returns-in_err-out : goal.returns-in_err-out
returns-in_err-out c =
    let a = c.args in
    let n = a.n.now in
    let j = c.loop-j.j in
    let here = tags_at n j in
    let rest = tags_from n (j + 1) (32 - (j + 1)) in
    let on = places_on n.config n.nodes.now n.buckets.now n.head n.node n.old j (omega arith) in
    let p = err_from_is_err_and c.from_residual.result c.from_residual.ensures.1 in
    let full = ap Err p.2 ∙ sym c.in_err-out.was ∙ c.gather_place.ensures in
    p.1 ∙ sym (adds_full p.0 rest) ∙ sym (adds_then (Ok c.loop-j.out) (Err p.0) here rest full)
    ∙ ap (adds (Ok c.loop-j.out)) (sym on) ∙ c.loop-j.invariant

pub loop-j-preserved : goal.loop-j-preserved
loop-j-preserved c =
    let a = c.args in
    let n = a.n.now in
    let j = c.loop-j.j in
    let here = tags_at n j in
    let rest = tags_from n (j + 1) (32 - (j + 1)) in
    let on = places_on n.config n.nodes.now n.buckets.now n.head n.node n.old j (omega arith) in
    sym (adds_then (Ok c.loop-j.out) (Ok c.in_ok-out.out) here rest (sym c.in_ok-out.was ∙ c.gather_place.ensures))
    ∙ ap (adds (Ok c.loop-j.out)) (sym on) ∙ c.loop-j.invariant

pub returns : goal.returns
returns c =
    let a = c.args in
    let n = a.n.now in
    let none = places_none n.config n.nodes.now n.buckets.now n.head n.node n.old c.loop-j.j (omega arith) in
    sym (adds_none (Ok c.loop-j.out)) ∙ ap (adds (Ok c.loop-j.out)) (sym none) ∙ c.loop-j.invariant
