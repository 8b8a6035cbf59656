use Rattle.std.proofs.Common.{rules, ap, ◌∙◌, List, ℕ, arith}
use borrow.Author.Tests.{eq-eqb, ne_eqb, le-leb, lt-leb}
use Rattle.bucket.specs.Bucket.{tags_in, added, changed}
use Rattle.bucket.specs.declared.Response.TheVariants.{Yes}
use Rattle.bucket.proofs.Laws.{rank_le, found_at}
use Rattle.bucket.proofs.Bucket.add.Goals as goal

-- each return is the case of `added` that its tests lead to; the tag stands where the search ended if and only if the bucket has it
pub returns-then-self-eq0 : goal.returns-then-self-eq0
unfolding added
returns-then-self-eq0 c = rw (eq-eqb _ _ c.if-self-eq0.true) c.answered.ensures

pub returns-then-stands_at : goal.returns-then-stands_at
unfolding added
returns-then-stands_at c =
    let has = found_at _ _ _ _ c.position-p.ensures.rank c.stands_at.ensures in
    rw (ne_eqb _ _ c.if-self-eq0.false, has ∙ c.if-stands_at.true) c.answered-then-stands_at.ensures

pub returns-then-n-ge-MOST_TAGS : goal.returns-then-n-ge-MOST_TAGS
unfolding added
returns-then-n-ge-MOST_TAGS c =
    let has = found_at _ _ _ _ c.position-p.ensures.rank c.stands_at.ensures in
    rw (ne_eqb _ _ c.if-self-eq0.false, has ∙ c.if-stands_at.false, le-leb 64 _ (rw c.count-n.ensures.0 at c.if-n-ge-MOST_TAGS.true))
    c.answered-then-n-ge-MOST_TAGS.ensures

pub put-words-requires : goal.put-words-requires
put-words-requires c =
    let has = found_at _ _ _ _ c.position-p.ensures.rank c.stands_at.ensures in
    let r = rank_le c.args.tag (tags_in c.args.self.words) in
    (search rules, omega arith, omega arith, omega arith, c.position-p.ensures.rank, has ∙ c.if-stands_at.false)

pub returns : goal.returns
unfolding added
returns c =
    let has = found_at _ _ _ _ c.position-p.ensures.rank c.stands_at.ensures in
    rw (ne_eqb _ _ c.if-self-eq0.false, has ∙ c.if-stands_at.false, lt-leb 64 _ (rw c.count-n.ensures.0 at c.if-n-ge-MOST_TAGS.false))
    (c.answered-2.ensures ∙ ap (λ (w : List ℕ). changed w Yes) c.put-words.ensures)
