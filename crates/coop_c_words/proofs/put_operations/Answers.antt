-- Its words in each turn of the loop.
use Rattle.std.proofs.Common.{arith}
use Rattle.coop_spec.specs.Machine.{never_invoked}
use Rattle.coop_state_words.specs.StateWords.{operations_words}
use Rattle.yard_words.proofs.Records.{rest_all, rest_on, rest_none}
use Rattle.coop_c_words.proofs.put_operations.Goals as goal

pub loop-k-init : goal.loop-k-init
loop-k-init c = rest_all _ _ 64 _

pub loop-k-preserved : goal.loop-k-preserved
unfolding never_invoked
loop-k-preserved c =
    let i = c.loop-k.invariant in
    rest_on _ _ 64 _ _ _ _ i c.loop-k-test.true (omega arith) (omega (arith, i.long)) c.put_operation.ensures c.put_operation.auto.w

pub returns : goal.returns
unfolding operations_words
returns c = rest_none _ _ 64 _ _ _ c.loop-k.invariant c.loop-k-test.false
