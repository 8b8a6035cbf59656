-- `planner::Standing::call` meets its contract. A resize is planned alike whatever the tag. Assumes nothing.
use Rattle.planner.proofs.Standing.call.Goals as goal

pub returns-in-Grow : goal.returns-in-Grow
returns-in-Grow c = rw c.in-Grow.is (c.grow.ensures c.args.g c.args.c.tag)

pub returns-in-Shrink : goal.returns-in-Shrink
returns-in-Shrink c = rw c.in-Shrink.is (c.shrink.ensures c.args.g c.args.c.tag)
