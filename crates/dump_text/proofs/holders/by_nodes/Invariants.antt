-- What is printed so far stays within the buffer.
use Rattle.dump_text.specs.Within.{Within}
use Rattle.dump_text.proofs.holders.by_nodes.Given as goal

abbrev pub invariant-loop-k : goal.invariant-loop-k
invariant-loop-k l = Within l.fn.page l.page
