-- `planner::Standing::shrink` meets its contract. At the limit, or not. Assumes nothing.
use Rattle.laws.specs.Sizes.{listed_is, listed_high}
use Rattle.planner.proofs.Calls.{shrink_limited, shrink_plans}
use Rattle.planner.proofs.Standing.shrink.Goals as goal

pub resize-requires : goal.resize-requires
resize-requires c = listed_high (listed_is c.args.self.head.size c.requires.listed)

pub returns-then-self-eq1 : goal.returns-then-self-eq1
returns-then-self-eq1 c g tag = shrink_limited g c.args.self c.requires tag _ c.if-self-eq1.true c.limited.ensures

pub returns-else-self-eq1 : goal.returns-else-self-eq1
returns-else-self-eq1 c g tag = shrink_plans g c.args.self c.requires tag _ c.if-self-eq1.false c.resize.ensures
