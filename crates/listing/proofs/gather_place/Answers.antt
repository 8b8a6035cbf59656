use Rattle.std.proofs.Common.{◌+◌, ◌<◌, List, ℕ, ap, sym, ◌∙◌, length, get_or, drop, arith}
use Rattle.std.proofs.lemmas.Result.{err_from_is_err_and}
use Rattle.std.specs.Prelude.{Ok, Err, Result}
use Rattle.spec.specs.Lists.{filter}
use Rattle.bucket.specs.declared.Bucket.{Bucket}
use Rattle.looked_up.specs.LookedUp.{looks_up}
use Rattle.listing_place.proofs.Laws.{pass, skip, rest_none, place_empty, place_filled}
use Rattle.listing.specs.Listing.{adds}
use Rattle.listing.proofs.Laws.{adds_none, adds_one, adds_full}
use Rattle.listing.proofs.gather_place.Goals as goal
use Rattle.listing.proofs.gather_place.Goals.{then-looks_up+in_ok-out, else-looks_up}

pub returns-then-l-eq0 : goal.returns-then-l-eq0
returns-then-l-eq0 c =
    let a = c.args in
    let n = a.n.now in
    let none = place_empty n.config n.nodes.now n.buckets.now n.head n.node n.old a.j c.place_at-l.result c.place_at-l.ensures c.if-l-eq0.true in
    sym (ap (adds (Ok a.had)) none ∙ adds_none (Ok a.had))

pub returns-in_err-out : goal.returns-in_err-out
returns-in_err-out c =
    let a = c.args in
    let n = a.n.now in
    let f = looks_up n a.j in
    let ts = c.tags-t-items.result.now in
    let i = c.loop-t.t-index in
    let h : i < length ts = omega arith in
    let out = Ok c.loop-t.out in
    let tail = filter f (drop (i + 1) ts) in
    let p = err_from_is_err_and c.from_residual.result c.from_residual.ensures.1 in
    let met = pass f ts i h (sym c.looks_up.ensures ∙ c.if-looks_up.true) in
    let full = ap Err p.2 ∙ sym c.in_err-out.was ∙ c.add_to.ensures in
    let here =
    place_filled n.config n.nodes.now n.buckets.now n.head n.node n.old a.j c.place_at-l.result
    c.place_at-l.ensures c.if-l-eq0.false _ c.load-b.ensures in
    p.1 ∙ sym (adds_full p.0 tail) ∙ ap (λ (g : Result Bucket Bucket). adds g tail) full ∙ sym (adds_one out (get_or ts i 0) tail) ∙ ap (adds out) (sym met)
    ∙ c.loop-t.invariant
    ∙ ap (λ (l : List ℕ). adds (Ok a.had) (filter f l)) c.tags-t-items.ensures.tags ∙ ap (adds (Ok a.had)) (sym here)

pub loop-t-preserved : goal.loop-t-preserved
loop-t-preserved c =
    let a = c.args in
    let n = a.n.now in
    let f = looks_up n a.j in
    let ts = c.tags-t-items.result.now in
    let i = c.loop-t.t-index in
    let h : i < length ts = omega arith in
    let out = Ok c.loop-t.out in
    let tail = filter f (drop (i + 1) ts) in
    elim c.if-looks_up.branch [
      | then-looks_up+in_ok-out w ↦ (
          let met = pass f ts i h (sym c.looks_up.ensures ∙ w.if-looks_up.true) in
          let more = ap (λ (b : Bucket). Ok b) w.out-is ∙ sym w.in_ok-out.was ∙ w.add_to.ensures in
          ap (λ (g : Result Bucket Bucket). adds g tail) more ∙ sym (adds_one out (get_or ts i 0) tail) ∙ ap (adds out) (sym met) ∙ c.loop-t.invariant
          )
      | else-looks_up w ↦ (
          let missed = skip f ts i h (sym c.looks_up.ensures ∙ w.if-looks_up.false) in
          ap (λ (b : Bucket). adds (Ok b) tail) w.out-is ∙ ap (adds out) (sym missed) ∙ c.loop-t.invariant
          )
    ]

pub returns : goal.returns
returns c =
    let a = c.args in
    let n = a.n.now in
    let f = looks_up n a.j in
    let ts = c.tags-t-items.result.now in
    let out = Ok c.loop-t.out in
    let all_done = sym (adds_none out) ∙ ap (adds out) (sym (rest_none f ts c.loop-t.t-index (omega arith))) in
    let here =
    place_filled n.config n.nodes.now n.buckets.now n.head n.node n.old a.j c.place_at-l.result
    c.place_at-l.ensures c.if-l-eq0.false _ c.load-b.ensures in
    all_done ∙ c.loop-t.invariant ∙ ap (λ (l : List ℕ). adds (Ok a.had) (filter f l)) c.tags-t-items.ensures.tags ∙ ap (adds (Ok a.had)) (sym here)
