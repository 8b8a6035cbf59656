use Rattle.std.proofs.Common.{arith}
use Rattle.coop_spec.specs.Machine.{machine_of, operation_of}
use Rattle.coop_sound.proofs.Laws.{kinds_all}
use Rattle.coop_sound.proofs.kinds_of.Goals as goal

pub returns : goal.returns
unfolding operation_of
returns c = λ vs. kinds_all (machine_of c.args.s vs) _ c.loop-n.invariant.long (λ n h. c.loop-n.invariant.same n (omega arith))
