use Rattle.std.proofs.Common.{◌≡◌, ◌<◌, ◌++◌, ◌∷◌, ◌+◌, ◌∙◌, List, [], Bool, ℕ, length, length-append, get_or, set, arith, refl, sym, ap}
use lib.Dec.{eqb}
use borrow.Author.Tests.{eq-eqb, ne_eqb}
use Rattle.spec.specs.declared.Config.{Config}
use Rattle.spec.specs.Words.{bucket_of}
use Rattle.spec.specs.Listed.{slot}
use Rattle.bucket.specs.declared.Bucket.{Bucket}
use Rattle.bucket_copies.specs.Copies.{split_of}
use Rattle.bucket.proofs.Pad.{padded, pad_push}
use Rattle.bucket_copies.proofs.Laws.{filter_yes, filter_no, filter_end, counted}
use Rattle.bucket_copies.proofs.split.Goals as goal
use Rattle.bucket_copies.proofs.split.Goals.{then-slot-i, else-slot-i}

abbrev mine : Config → ℕ → ℕ → ℕ → Bool
mine g size i = λ k. eqb (slot g k size) i

abbrev bucket-with : List ℕ → Bucket
bucket-with w = record { words = w }

pub loop-t-init : goal.loop-t-init
unfolding padded
loop-t-init c = ([], omega arith, refl, refl, refl)

pub loop-t-preserved : goal.loop-t-preserved
loop-t-preserved c =
    let a = c.args in
    let l = c.loop-t in
    let ts = c.tags-t-items.result.now in
    let acc = l.invariant.0 in
    let t = get_or ts l.t-index 0 in
    let in' : l.t-index < length ts = omega arith in
    let test = ap (λ (k : ℕ). eqb k a.i) (sym c.slot.ensures) in
    let n : length (acc ++ (t ∷ [])) ≡ l.len + 1 = rw (length-append acc (t ∷ [])) (omega arith) in
    elim c.if-slot-i.branch [
      | then-slot-i y ↦ (
        acc ++ (t ∷ []),
        omega arith,
        y.words-is ∙ ap (λ (o : List ℕ). set o (2 + l.len) t) l.invariant.2 ∙ pad_push (1 ∷ 0 ∷ acc) t (2 + l.len) (omega arith) (omega arith),
        n ∙ sym y.len-is,
        sym (filter_yes (mine a.g a.size a.i) ts acc l.t-index t in' refl (test ∙ eq-eqb _ _ y.if-slot-i.true)) ∙ l.invariant.4,
      )
      | else-slot-i y ↦ (
        acc,
        omega arith,
        y.words-is ∙ l.invariant.2,
        omega arith,
        sym (filter_no (mine a.g a.size a.i) ts acc l.t-index t in' refl (test ∙ ne_eqb _ _ y.if-slot-i.false)) ∙ l.invariant.4,
      )
    ]

pub returns : goal.returns
unfolding split_of
returns c =
    let a = c.args in
    let l = c.loop-t in
    let ts = c.tags-t-items.result.now in
    let all = sym (filter_end (mine a.g a.size a.i) ts l.invariant.0 l.t-index (omega arith)) ∙ l.invariant.4 in
    rw (← c.tags-t-items.ensures.tags)
    (ap bucket-with (counted l.invariant.0 l.words l.len l.invariant.2 l.invariant.3 ∙ ap (λ (x : List ℕ). bucket_of 1 x) all))
