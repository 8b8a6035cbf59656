-- the check is that of the machine as it is lent
use Rattle.hashset.proofs.moved_by_start.Goals as goal

pub returns : goal.returns
returns c = c.start.ensures _ _ c.check-d.ensures
