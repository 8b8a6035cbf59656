-- `planner::place` meets its contract. Assumes nothing.
use Rattle.planner.proofs.Calls.{place_fits}
use Rattle.planner.proofs.place.Goals as goal

pub returns : goal.returns
returns c =
    let e = c.slot.ensures in
    (e, place_fits c.args.g c.args.tag c.args.h _ c.requires e)
