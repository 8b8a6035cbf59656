-- the state in which `settle` stores what the start changes is that of the definition
use Rattle.std.proofs.Common.{◌∙◌}
use Rattle.hashset.proofs.start.Goals as goal

pub returns : goal.returns
returns c = c.settle.ensures _ _ ∙ c.moved_by_start-m.ensures.reply
