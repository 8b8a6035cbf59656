use borrow.Author.Tests.{le-leb, lt-leb}
use Rattle.spec.specs.Sound.{sound_bucket}
use Rattle.sound_records.proofs.bucket_ok.Goals as goal

pub returns-then-w-le1 : goal.returns-then-w-le1
unfolding sound_bucket
returns-then-w-le1 c = rw (le-leb _ _ c.if-w-le1.true) c.tags_ok.ensures

pub returns-else-w-le1 : goal.returns-else-w-le1
unfolding sound_bucket
returns-else-w-le1 c = rw (lt-leb _ _ c.if-w-le1.false)
