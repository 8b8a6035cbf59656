-- the state in which `settle` stores what the step changes is that of the definition
use Rattle.std.proofs.Common.{◌∙◌}
use Rattle.hashset.proofs.step.Goals as goal

pub returns : goal.returns
returns c = c.settle.ensures _ _ ∙ c.step-m.ensures.reply
