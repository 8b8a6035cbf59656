use Rattle.std.proofs.Common.{◌≡◌, List, ℕ, Bool, false, length, sym, ap, ◌∙◌}
use borrow.Author.Tests.{le-leb, lt-leb}
use lib.Dec.{leb}
use Rattle.spec.specs.declared.Refusal.TheVariants.{Spoilt}
use Rattle.spec.specs.declared.Task.{Task}
use Rattle.spec.specs.Lists.{member}
use Rattle.spec.specs.Machine.{with_buckets, machine_of}
use Rattle.spec.specs.Words.{number, count, tags, apply}
use Rattle.spec.specs.Entries.{accept}
use Rattle.bucket.specs.Bucket.{found, tags_in}
use Rattle.pool.specs.declared.buckets.Answered.{Answered}
use Rattle.pool.specs.Pool.{bucket_at}
use Rattle.pool.proofs.At.{found_here, add_here, tags_count}
use Rattle.listing.proofs.Sound.{counted}
use Rattle.lines.proofs.Giving.{refusing, going}
use Rattle.lines_apply.specs.Invokes.{Invokes}
use Rattle.lines_apply.proofs.Apply36.{filled, fits, gained, adds, no_36, full_36, yes_36, over_36}
use Rattle.lines_apply.proofs.insert36.Goals as goal

-- the search says whether the bucket has the tag, and its second word how many it has
module _ {k : ℕ} {c : Task} {bs : List ℕ} (v : Invokes k c bs) where
  has : {b : Bool} → b ≡ found c.tag (tags_in (bucket_at bs (number c.b)).words) → b ≡ member c.tag (tags bs (number c.b))
  has e = e ∙ found_here bs (number c.b) v.good (fits v) c.tag

  many : {n : ℕ} → n ≡ count bs (number c.b) → length (tags bs (number c.b)) ≡ n
  many e = tags_count bs (number c.b) v.good (fits v) ∙ sym e

pub returns-then-has_at : goal.returns-then-has_at
unfolding count
returns-then-has_at c =
    let a = c.args in
    let v = c.requires.0 in
    let y = machine_of a.s a.ns.now a.bs.now in
    going c.end_counted.ensures.1
    (c.end_counted.ensures.0 _ _ c.word-n.ensures
    ∙ sym (no_36 y _ a.c v.line (filled v) v.may_change c.requires.1 (sym (has v c.has_at.ensures) ∙ c.if-has_at.true)))

-- the tag is absent

pub returns-then-listed-ge64 : goal.returns-then-listed-ge64
unfolding count
returns-then-listed-ge64 c =
    let a = c.args in
    let v = c.requires.0 in
    let y = machine_of a.s a.ns.now a.bs.now in
    let full = rw (c.count-listed.ensures ∙ counted y c.requires.2) at c.if-listed-ge64.true in
    going c.end_counted-then-listed-ge64.ensures.1
    (c.end_counted-then-listed-ge64.ensures.0 _ _ c.word-n.ensures
    ∙ sym (full_36 y _ a.c v.line (filled v) v.may_change c.requires.1 (sym (has v c.has_at.ensures) ∙ c.if-has_at.false) full))

-- and fewer than 64 are listed

pub returns-then-n-ge64 : goal.returns-then-n-ge64
unfolding count
returns-then-n-ge64 c =
    let a = c.args in
    let v = c.requires.0 in
    let y = machine_of a.s a.ns.now a.bs.now in
    let room = rw (c.count-listed.ensures ∙ counted y c.requires.2) at c.if-listed-ge64.false in
    let over = le-leb 64 (length (tags a.bs.now (number a.c.b))) (rw (many v c.word-n.ensures) c.if-n-ge64.true) in
    refusing Spoilt c.refused.ensures
    (over_36 y _ a.c v.line (filled v) v.may_change c.requires.1 (sym (has v c.has_at.ensures) ∙ c.if-has_at.false) room over)

pub returns : goal.returns
unfolding count accept apply with_buckets
returns c =
    let a = c.args in
    let v = c.requires.0 in
    let y = machine_of a.s a.ns.now a.bs.now in
    let w = a.bs.now in
    let b = number a.c.b in
    let absent : member a.c.tag (tags w b) ≡ false = sym (has v c.has_at.ensures) ∙ c.if-has_at.false in
    let room = rw (c.count-listed.ensures ∙ counted y c.requires.2) at c.if-listed-ge64.false in
    let fewer : leb 64 (length (tags w b)) ≡ false = lt-leb 64 (length (tags w b)) (rw (many v c.word-n.ensures) c.if-n-ge64.false) in
    let d = add_here w b v.good (fits v) a.c.tag in
    let stored = c.add_at-d.ensures.1 ∙ d.1 in
    let left : c.add_at-d.new.pool ≡ gained w b a.c.tag = stored ∙ adds w b a.c.tag v.may_change absent fewer in
    let n = ap (λ (x : Answered). x.count) (c.add_at-d.ensures.0 ∙ d.0) ∙ ap (λ (x : List ℕ). count x b) (sym stored) in
    going c.end_counted-2.ensures.1
    (c.end_counted-2.ensures.0 _ _ n ∙ rw left (sym (yes_36 y _ a.c v.line (filled v) v.may_change c.requires.1 absent room fewer)))
