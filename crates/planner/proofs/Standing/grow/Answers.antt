-- `planner::Standing::grow` meets its contract. At the limit, or not. Assumes nothing.
use Rattle.std.proofs.Common.{arith}
use Rattle.laws.specs.Sizes.{listed_is, listed_high}
use Rattle.planner.proofs.Calls.{grow_limited, grow_plans}
use Rattle.planner.proofs.Standing.grow.Goals as goal

pub overflow_mul-self : goal.overflow_mul-self
overflow_mul-self c = omega (arith, listed_high (listed_is c.args.self.head.size c.requires.listed))

pub resize-requires : goal.resize-requires
resize-requires c = listed_high (listed_is c.args.self.head.size c.requires.listed)

pub returns-then-self-eq32 : goal.returns-then-self-eq32
returns-then-self-eq32 c g tag = grow_limited g c.args.self c.requires tag _ c.if-self-eq32.true c.limited.ensures

pub returns-else-self-eq32 : goal.returns-else-self-eq32
returns-else-self-eq32 c g tag = grow_plans g c.args.self c.requires tag _ c.if-self-eq32.false c.resize.ensures
