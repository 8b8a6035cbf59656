use Rattle.std.proofs.Common.{◌∙◌}
use Rattle.soundness.proofs.Laws.{told_is_some}
use Rattle.soundness.proofs.sound.Goals as goal

pub returns : goal.returns
returns c = c.is_some.ensures ∙ told_is_some _ _ c.check.ensures
