-- Of the version's own tags, by whether there are fewer than 64.
use Rattle.std.proofs.Common.{◌≤◌, ◌<◌, ◌∙◌, length, ap, eq-eqb, ne_eqb, lt-ltb}
use Rattle.spec.specs.Words.{tags}
use Rattle.bucket.specs.Bucket.{found}
use Rattle.coop_pool.proofs.Own.{few_own, own_tags}
use Rattle.coop_pool.proofs.Making.{removing_fits, adding_fits, full_fits}
use Rattle.coop_pool.proofs.has_room.Goals as goal

pub returns-then-count-lt-MOST_TAGS : goal.returns-then-count-lt-MOST_TAGS
returns-then-count-lt-MOST_TAGS c =
    let a = c.args in
    let same = own_tags a.vs.now a.k c.requires c.load-b.result c.load-b.ensures in
    let few : length (tags a.vs.now a.k) < 64 = rw (c.count.ensures.0 ∙ ap length same) at c.if-count-lt-MOST_TAGS.true in
    lt-ltb _ _ c.if-count-lt-MOST_TAGS.true
    ∙ adding_fits a.op (tags a.vs.now a.k) (few_own a.vs.now a.k c.requires) (eq-eqb _ _ c.if-op-eq-INVOKE_INSERT.true) few

pub returns-else-count-lt-MOST_TAGS : goal.returns-else-count-lt-MOST_TAGS
returns-else-count-lt-MOST_TAGS c =
    let a = c.args in
    let same = own_tags a.vs.now a.k c.requires c.load-b.result c.load-b.ensures in
    let full : 64 ≤ length (tags a.vs.now a.k) = rw (c.count.ensures.0 ∙ ap length same) at c.if-count-lt-MOST_TAGS.false in
    c.has.ensures ∙ ap (found a.op.tag) same
    ∙ full_fits a.op (tags a.vs.now a.k) (few_own a.vs.now a.k c.requires) (eq-eqb _ _ c.if-op-eq-INVOKE_INSERT.true) full

pub returns-else-op-eq-INVOKE_INSERT : goal.returns-else-op-eq-INVOKE_INSERT
returns-else-op-eq-INVOKE_INSERT c =
    let a = c.args in
    removing_fits a.op (tags a.vs.now a.k) (few_own a.vs.now a.k c.requires) (ne_eqb _ _ c.if-op-eq-INVOKE_INSERT.false)
