-- `planner::update_figures` meets its contract. The place is filled or empty. Assumes nothing.
use Rattle.std.proofs.Common.{◌≡◌, length, rules}
use Rattle.planner.proofs.Places.{update_filled, update_empty}
use Rattle.planner.proofs.update_figures.Goals as goal

pub returns-then-h-i : goal.returns-then-h-i
returns-then-h-i c ts =
    let a = c.args in
    let room : length a.h.filled ≡ 32 = search rules in
    update_filled a.h ts room c.requires.most a.i c.requires.within a.answer c.if-h-i.true

pub returns-else-h-i : goal.returns-else-h-i
returns-else-h-i c ts =
    let a = c.args in
    let room : length a.h.filled ≡ 32 = search rules in
    update_empty a.h ts room c.requires.most a.i c.requires.within a.answer c.if-h-i.false _ c.fill_steps.ensures.0
