use Rattle.std.proofs.Common.{sym}
use Rattle.bucket.proofs.Laws.{found_at}
use Rattle.bucket.proofs.Bucket.has.Goals as goal

-- what stands at the position that the search gives
pub returns : goal.returns
returns c = sym (found_at _ _ _ _ c.position-p.ensures.rank c.stands_at.ensures)
