-- The length, and the words of eight tasks.
use Rattle.std.proofs.Common.{eq-eqb, ne_eqb}
use Rattle.state_words.specs.StateWords.{state_fits, bit_fits}
use Rattle.yard_words.proofs.Records.{tested_none, tested_on, tested_all}
use Rattle.yard_words.proofs.state_fits.Goals as goal

pub returns-then-w-ne-STATE_WORDS : goal.returns-then-w-ne-STATE_WORDS
unfolding state_fits
returns-then-w-ne-STATE_WORDS c = rw (ne_eqb _ _ c.if-w-ne-STATE_WORDS.true)

pub loop-k-init : goal.loop-k-init
unfolding bit_fits
loop-k-init c = tested_none _ 8 _

pub loop-k-preserved : goal.loop-k-preserved
loop-k-preserved c = rw c.task_fits-fits.ensures (tested_on _ 8 _ c.loop-k.fits c.loop-k.k c.loop-k.invariant c.loop-k-test.true)

pub returns : goal.returns
unfolding state_fits
returns c = rw (eq-eqb _ 113 c.if-w-ne-STATE_WORDS.false) (tested_all _ 8 _ _ _ c.loop-k.invariant c.loop-k-test.false)
