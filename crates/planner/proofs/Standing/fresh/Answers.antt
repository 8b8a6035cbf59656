-- `planner::Standing::fresh` meets its contract. Assumes nothing.
use Rattle.std.proofs.Common.{refl, arith}
use Rattle.spec.specs.Lists.{member}
use Rattle.spec.specs.Sound.{listed_size}
use Rattle.plans.specs.Plan.{fresh}
use Rattle.planner.proofs.Standing.fresh.Goals as goal

pub returns : goal.returns
unfolding fresh listed_size member
returns c = (refl, record { listed = refl; room = refl; changeable = refl; rising = tt; few = omega arith })
