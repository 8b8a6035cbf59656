use Rattle.std.proofs.Common.{rules, ap, ◌∙◌, List, ℕ, arith}
use borrow.Author.Tests.{eq-eqb, ne_eqb}
use Rattle.bucket.specs.Bucket.{tags_in, removed, changed}
use Rattle.bucket.specs.declared.Response.TheVariants.{Yes}
use Rattle.bucket.proofs.Laws.{rank_below, found_at}
use Rattle.bucket.proofs.Bucket.remove.Goals as goal

-- each return is the case of `removed` that its tests lead to; the tag stands where the search ended if and only if the bucket has it
pub returns-then-self-eq0 : goal.returns-then-self-eq0
unfolding removed
returns-then-self-eq0 c = rw (eq-eqb _ _ c.if-self-eq0.true) c.answered.ensures

pub cut-words-requires : goal.cut-words-requires
cut-words-requires c =
    let has = found_at _ _ _ _ c.position-p.ensures.rank c.stands_at.ensures in
    let present = has ∙ c.if-stands_at.true in
    let r = rank_below c.args.tag (tags_in c.args.self.words) present in
    (search rules, omega arith, omega arith, omega arith, c.position-p.ensures.rank, present)

pub returns-then-stands_at : goal.returns-then-stands_at
unfolding removed
returns-then-stands_at c =
    let has = found_at _ _ _ _ c.position-p.ensures.rank c.stands_at.ensures in
    rw (ne_eqb _ _ c.if-self-eq0.false, has ∙ c.if-stands_at.true)
    (c.answered-then-stands_at.ensures ∙ ap (λ (w : List ℕ). changed w Yes) c.cut-words.ensures)

pub returns : goal.returns
unfolding removed
returns c =
    let has = found_at _ _ _ _ c.position-p.ensures.rank c.stands_at.ensures in
    rw (ne_eqb _ _ c.if-self-eq0.false, has ∙ c.if-stands_at.false) c.answered-2.ensures
