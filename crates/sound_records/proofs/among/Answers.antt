use Rattle.std.proofs.Common.{◌∙◌}
use Rattle.sound_records.proofs.Laws.{any_member}
use Rattle.sound_records.proofs.among.Goals as goal

pub returns : goal.returns
returns c = c.contains.ensures.value ∙ any_member c.args.x c.args.s.now
