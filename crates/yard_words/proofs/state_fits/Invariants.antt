use Rattle.std.proofs.Common.{◌+◌, ◌*◌, get_or}
use Rattle.state_words.specs.StateWords.{bit_fits, task_fits}
use Rattle.yard_words.proofs.Records.{Tested}
use Rattle.yard_words.proofs.state_fits.Given as goal

abbrev pub invariant-loop-k : goal.invariant-loop-k
invariant-loop-k l = Tested (λ j. task_fits l.w (9 + 13 * j)) 8 (bit_fits (get_or l.w 2 0)) l.fits l.k
