-- What is printed so far stays within the buffer.
use Rattle.dump_text.specs.Within.{Within}
use Rattle.dump_text.proofs.tasks.variables.Given as goal

abbrev pub invariant-loop-v : goal.invariant-loop-v
invariant-loop-v l = Within l.fn.page l.page
