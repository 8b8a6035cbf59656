-- A read or a write that failed, or what the text says.
use Rattle.std.proofs.Common.{true, false, sym, ◌∙◌}
use Rattle.stdio.specs.Outcomes.{outcome_of}
use Rattle.stdio.proofs.output.answer.Goals as goal

pub returns-then-has_failed : goal.returns-then-has_failed
unfolding outcome_of
returns-then-has_failed c = record { written = true; outcome = rw (sym c.has_failed.ensures ∙ c.if-has_failed.true) }

pub returns-then-not-write_all : goal.returns-then-not-write_all
unfolding outcome_of
returns-then-not-write_all c = record { written = false; outcome = rw (sym c.has_failed.ensures ∙ c.if-has_failed.false) }

pub returns : goal.returns
unfolding outcome_of
returns c = record { written = true; outcome = rw (sym c.has_failed.ensures ∙ c.if-has_failed.false) c.text_says-o.ensures }
