use Rattle.std.proofs.Common.{◌+◌, ◌*◌}
use Rattle.yard_words.proofs.Laws.{words_of_task}
use Rattle.yard_words.proofs.Records.{Rest}
use Rattle.yard_words.proofs.put_state.Given as goal

abbrev pub invariant-loop-k : goal.invariant-loop-k
invariant-loop-k l = Rest (λ j. words_of_task l.fn.s.task j) (λ j. 9 + 13 * j) 8 l.initial.w l.w l.k
