use Rattle.std.proofs.Common.{refl}
use Rattle.checked_start.proofs.start.Goals as goal

pub returns : goal.returns
returns c = λ ns bs e. c.start_of.ensures c.args.s ns bs refl refl refl refl e
