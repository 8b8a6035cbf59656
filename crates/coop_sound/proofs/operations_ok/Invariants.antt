-- What is left to test is `every` of the operations from this one on.
use Rattle.std.proofs.Common.{◌≡◌, drop}
use Rattle.spec.specs.Lists.{every}
use Rattle.coop_spec.specs.Sound.{sound_operation}
use Rattle.coop_sound.proofs.operations_ok.Given as goal

abbrev pub invariant-loop-op : goal.invariant-loop-op
invariant-loop-op l = every sound_operation l.op-items ≡ every sound_operation (drop l.op-index l.op-items)
