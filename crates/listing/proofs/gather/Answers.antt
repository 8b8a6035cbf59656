use Rattle.std.proofs.Common.{◌≡◌, ap, sym, ◌∙◌, List, ℕ, Bool, true, false}
use Rattle.std.proofs.lemmas.Result.{err_from_is_err_and}
use Rattle.std.specs.Prelude.{Ok, Err, [], if◌then◌else◌}
use Rattle.spec.specs.Words.{number, filled, pred}
use Rattle.listing.specs.Listing.{places_tags, set_tags, adds, nothing}
use Rattle.listing.proofs.Laws.{set_alone, set_both, adds_full, adds_then}
use Rattle.listing.proofs.gather.Goals as goal

pub returns-in_err-x : goal.returns-in_err-x
unfolding set_tags
returns-in_err-x c =
    let a = c.args in
    let d = a.s.head in
    let ns = a.ns.now in
    let first = places_tags a.s.config ns a.bs.now d d false 0 32 in
    let rest : List ℕ = if filled (pred ns d) then places_tags a.s.config ns a.bs.now d (number (pred ns d)) true 0 32 else [] in
    let p = err_from_is_err_and c.from_residual.result c.from_residual.ensures.1 in
    let o = c.head_of-head.ensures.opened in
    let h = c.head_of-head.ensures.head in
    let full : Err p.0 ≡ adds nothing first = cc (ap Err p.2 ∙ sym c.in_err-x.was ∙ c.gather_node.ensures) in
    p.1 ∙ sym (adds_full p.0 rest) ∙ sym (adds_then nothing (Err p.0) first rest full)

pub returns-then-q-eq0 : goal.returns-then-q-eq0
returns-then-q-eq0 c =
    let a = c.args in
    let alone = set_alone a.s.config a.ns.now a.bs.now a.s.head (sym c.pred_at-q.ensures ∙ c.if-q-eq0.true) in
    let o = c.head_of-head.ensures.opened in
    let h = c.head_of-head.ensures.head in
    cc (sym c.in_ok-x.was ∙ c.gather_node.ensures)

pub returns : goal.returns
returns c =
    let a = c.args in
    let d = a.s.head in
    let of_node : ℕ → Bool → List ℕ = λ k old. places_tags a.s.config a.ns.now a.bs.now d k old 0 32 in
    let k : c.number_of-node.result ≡ number (pred a.ns.now d) = c.number_of-node.ensures ∙ ap number c.pred_at-q.ensures in
    let olds = of_node (number (pred a.ns.now d)) true in
    let both = set_both a.s.config a.ns.now a.bs.now d (λ z. c.if-q-eq0.false (c.pred_at-q.ensures ∙ z)) in
    let o = c.head_of-head.ensures.opened in
    let h = c.head_of-head.ensures.head in
    let x : Ok c.in_ok-x.x ≡ adds nothing (of_node d false) = cc (sym c.in_ok-x.was ∙ c.gather_node.ensures) in
    let y : c.gather_node-2.result ≡ adds (Ok c.in_ok-x.x) olds = cc (c.gather_node-2.ensures) in
    y ∙ sym (adds_then nothing (Ok c.in_ok-x.x) (of_node d false) olds x) ∙ ap (adds nothing) (sym both)
