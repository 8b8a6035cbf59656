-- What is printed so far stays within the buffer.
use Rattle.dump_text.specs.Within.{Within}
use Rattle.dump_text.proofs.tasks.numbers.Given as goal

abbrev pub invariant-loop-j : goal.invariant-loop-j
invariant-loop-j l = Within l.fn.page l.page
