use Rattle.std.proofs.Common.{arith, sym}
use Rattle.coop_spec.specs.Machine.{machine_of}
use Rattle.coop_sound.proofs.Laws.{numbers}
use Rattle.coop_sound.proofs.sound.Goals as goal

pub versions_ok-requires : goal.versions_ok-requires
versions_ok-requires c = let n = numbers (machine_of c.args.s c.args.vs.now) (sym c.if-not-numbers_ok.ensures) in omega arith
