-- `planner::Standing::contains` meets its contract. The place is filled or empty. Assumes nothing.
use Rattle.std.proofs.Common.{true, false, refl, sym, ◌∙◌}
use Rattle.planner.proofs.Calls.{contains_plans}
use Rattle.planner.proofs.Standing.contains.Goals as goal

pub returns-then-self-i : goal.returns-then-self-i
returns-then-self-i c =
    contains_plans c.args.g c.args.self c.requires c.args.tag _ true
    (sym c.if-self-i.true ∙ rw c.place-i.ensures.0) (rw (c.from.ensures, c.has.ensures)) refl

pub returns-else-self-i : goal.returns-else-self-i
returns-else-self-i c =
    contains_plans c.args.g c.args.self c.requires c.args.tag _ false
    (sym c.if-self-i.false ∙ rw c.place-i.ensures.0) (rw (c.from.ensures, c.has.ensures)) refl
