use Rattle.std.proofs.Common.{◌≡◌, ap, sym, ◌∙◌, List, ℕ, Bool, true, false, length, length-append, arith}
use Rattle.spec.specs.Words.{number, pred}
use Rattle.listing.specs.Listing.{places_tags}
use Rattle.listing.proofs.Laws.{set_alone, set_both}
use Rattle.listing.proofs.count.Goals as goal

pub returns-then-q-eq0 : goal.returns-then-q-eq0
returns-then-q-eq0 c =
    let a = c.args in
    let alone = set_alone a.s.config a.ns.now a.bs.now a.s.head (sym c.pred_at-q.ensures ∙ c.if-q-eq0.true) in
    let found = c.count_node-found.ensures.0 in
    let o = c.head_of-head.ensures.opened in
    let h = c.head_of-head.ensures.head in
    cc

pub returns : goal.returns
returns c =
    let a = c.args in
    let d = a.s.head in
    let of_node : ℕ → Bool → List ℕ = λ k old. places_tags a.s.config a.ns.now a.bs.now d k old 0 32 in
    let k : c.number_of-node.result ≡ number (pred a.ns.now d) = c.number_of-node.ensures ∙ ap number c.pred_at-q.ensures in
    let both = set_both a.s.config a.ns.now a.bs.now d (λ z. c.if-q-eq0.false (c.pred_at-q.ensures ∙ z)) in
    let e = ap length both ∙ length-append (of_node d false) (of_node (number (pred a.ns.now d)) true) in
    let o = c.head_of-head.ensures.opened in
    let h = c.head_of-head.ensures.head in
    let x : c.count_node-found.result ≡ length (of_node d false) = cc (c.count_node-found.ensures.0) in
    let y : c.count_node.result ≡ length (of_node (number (pred a.ns.now d)) true) = cc (c.count_node.ensures.0) in
    omega arith
