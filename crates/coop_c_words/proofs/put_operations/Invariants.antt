use Rattle.coop_state_words.specs.StateWords.{operation_place, words_of_operation}
use Rattle.yard_words.proofs.Records.{Rest}
use Rattle.coop_c_words.proofs.put_operations.Given as goal

abbrev pub invariant-loop-k : goal.invariant-loop-k
invariant-loop-k l = Rest (λ j. words_of_operation l.fn.s.operation j) (λ j. operation_place j) 64 l.initial.w l.w l.k
