-- What is printed so far stays within the buffer.
use Rattle.dump_text.specs.Within.{Within}
use Rattle.dump_text.proofs.records.filled_places.Given as goal

abbrev pub invariant-loop-i : goal.invariant-loop-i
invariant-loop-i l = Within l.fn.page l.page
