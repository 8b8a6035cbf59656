use Rattle.spec.specs.Sound.{listed_size}
use Rattle.sound_records.proofs.is_listed_size.Goals as goal

pub returns : goal.returns
unfolding listed_size
returns c = c.among.ensures
