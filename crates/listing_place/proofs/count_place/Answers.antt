use Rattle.std.proofs.Common.{◌≡◌, ◌<◌, ◌∙◌, length, arith, sym, ap, Bool, ℕ, List}
use Rattle.looked_up.specs.LookedUp.{looks_up}
use Rattle.listing_place.proofs.Laws.{pass, skip, rest_none, place_empty, place_filled}
use Rattle.spec.specs.Lists.{filter}
use Rattle.listing_place.proofs.count_place.Goals as goal

pub returns-then-l-eq0 : goal.returns-then-l-eq0
returns-then-l-eq0 c =
    let n = c.args.n.now in
    let j = c.args.j in
    let none = place_empty n.config n.nodes.now n.buckets.now n.head n.node n.old j c.place_at-l.result c.place_at-l.ensures c.if-l-eq0.true in
    (sym (ap length none), omega arith)

pub loop-t-preserved : goal.loop-t-preserved
loop-t-preserved c =
    let n = c.args.n.now in
    let j = c.args.j in
    let l = c.loop-t in
    let f : ℕ → Bool = looks_up n j in
    let ts = c.tags-t-items.result.now in
    let h : l.t-index < length ts = omega arith in
    let few = l.invariant.few in
    let counts = l.invariant.counts in
    elim c.if-looks_up.branch [
      | goal.then-looks_up w ↦ record {
        few = omega (arith, few);
        counts = omega (arith, counts, ap length (pass f ts l.t-index h (sym c.looks_up.ensures ∙ w.if-looks_up.true)));
      }
      | goal.else-looks_up w ↦ record {
        few = omega (arith, few);
        counts = omega (arith, counts, ap length (skip f ts l.t-index h (sym c.looks_up.ensures ∙ w.if-looks_up.false)));
      }
    ]

pub returns : goal.returns
returns c =
    let n = c.args.n.now in
    let j = c.args.j in
    let l = c.loop-t in
    let f : ℕ → Bool = looks_up n j in
    let ts = c.tags-t-items.result.now in
    let z = ap length (rest_none f ts l.t-index (omega arith)) in
    let e : l.found ≡ length (filter f ts) = omega (arith, l.invariant.counts, z) in
    let here =
    place_filled n.config n.nodes.now n.buckets.now n.head n.node n.old j c.place_at-l.result
    c.place_at-l.ensures c.if-l-eq0.false _ c.load-b.ensures in
    (e ∙ ap (λ (l : List ℕ). length (filter f l)) c.tags-t-items.ensures.tags ∙ sym (ap length here), omega (arith, l.invariant.few, c.tags-t-items.ensures.most))
