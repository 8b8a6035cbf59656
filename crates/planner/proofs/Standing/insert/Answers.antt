-- `planner::Standing::insert` meets its contract. Assumes nothing.
use Rattle.planner.proofs.Calls.{insert_plans}
use Rattle.planner.proofs.Standing.insert.Goals as goal

pub returns : goal.returns
returns c = insert_plans c.args.g c.args.self c.requires c.args.tag _ (rw c.add.ensures at c.update.ensures)
