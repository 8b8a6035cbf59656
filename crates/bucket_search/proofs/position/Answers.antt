use Rattle.std.proofs.Common.{◌<◌, length, arith}
use Rattle.bucket_search.specs.Tags.{tags_in}
use Rattle.bucket_search.proofs.Laws.{tag_at, rank_here, rank_on, rank_end, rank_counts_below}
use Rattle.bucket_search.proofs.position.Goals as goal

pub returns-then-tag-w-clause-rank : goal.returns-then-tag-w-clause-rank
returns-then-tag-w-clause-rank c =
    let ws = c.args.w.now in
    let within : c.loop-p.p < length (tags_in ws) = omega arith in
    omega (arith, tag_at ws _ within, rank_here c.args.tag (tags_in ws) _ within (omega (arith, tag_at ws _ within)))

pub returns-then-tag-w-clause-below : goal.returns-then-tag-w-clause-below
returns-then-tag-w-clause-below c = λ up.
    let ws = c.args.w.now in
    let within : c.loop-p.p < length (tags_in ws) = omega arith in
    omega (arith, rank_here c.args.tag (tags_in ws) _ within (omega (arith, tag_at ws _ within)), rank_counts_below c.args.tag (tags_in ws) up)

pub loop-p-preserved : goal.loop-p-preserved
loop-p-preserved c =
    let ws = c.args.w.now in
    let within : c.loop-p.p < length (tags_in ws) = omega arith in
    omega (arith, rank_on c.args.tag (tags_in ws) _ within (omega (arith, tag_at ws _ within)))

pub returns-clause-rank : goal.returns-clause-rank
returns-clause-rank c = omega (arith, rank_end c.args.tag (tags_in c.args.w.now) c.loop-p.p (omega arith))

pub returns-clause-below : goal.returns-clause-below
returns-clause-below c = λ up.
    let ts = tags_in c.args.w.now in
    omega (arith, rank_end c.args.tag ts c.loop-p.p (omega arith), rank_counts_below c.args.tag ts up)
