use Rattle.coop_state_words.specs.StateWords.{task_place, words_of_task}
use Rattle.yard_words.proofs.Records.{Rest}
use Rattle.coop_c_words.proofs.put_tasks.Given as goal

abbrev pub invariant-loop-k : goal.invariant-loop-k
invariant-loop-k l = Rest (λ j. words_of_task l.fn.s.task j) (λ j. task_place j) 8 l.initial.w l.w l.k
