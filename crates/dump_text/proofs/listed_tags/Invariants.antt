-- What is printed so far stays within the buffer.
use Rattle.dump_text.specs.Within.{Within}
use Rattle.dump_text.proofs.listed_tags.Given as goal

abbrev pub invariant-loop-tag : goal.invariant-loop-tag
invariant-loop-tag l = Within l.fn.page l.page
