-- `planner::Standing::remove` meets its contract. Assumes nothing.
use Rattle.planner.proofs.Calls.{remove_plans}
use Rattle.planner.proofs.Standing.remove.Goals as goal

pub returns : goal.returns
returns c = remove_plans c.args.g c.args.self c.requires c.args.tag _ (rw c.remove.ensures at c.update.ensures)
