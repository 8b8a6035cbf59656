use Rattle.std.proofs.Common.{◌≤◌, ◌<◌, length, arith}
use borrow.Author.Tests.{le-ltb, lt-ltb}
use Rattle.bucket.specs.Bucket.{tags_in, stands_at}
use Rattle.bucket.proofs.Laws.{tag_at}
use Rattle.bucket.proofs.Bucket.stands_at.Goals as goal

-- below the count the word two places on is the tag at that position
pub returns-then-p-count : goal.returns-then-p-count
unfolding stands_at
returns-then-p-count c =
    let ws = c.args.self.words in
    let h : c.args.p < length (tags_in ws) = omega arith in
    rw (lt-ltb _ _ h, tag_at ws c.args.p h)

pub returns-else-p-count : goal.returns-else-p-count
unfolding stands_at
returns-else-p-count c =
    let h : length (tags_in c.args.self.words) ≤ c.args.p = omega arith in
    let g : c.count.result ≤ c.args.p = omega arith in
    rw (le-ltb _ _ h, le-ltb _ _ g)
