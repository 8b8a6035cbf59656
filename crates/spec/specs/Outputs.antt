-- What a start or a step answers: how far the call has come, or why it is refused. What a list answers: the number of tags written, or why it is refused.
-- Assumes nothing.
use Rattle.std.specs.Prelude.{ℕ, Result}
use Rattle.spec.specs.declared.Progress.{Progress}
use Rattle.spec.specs.declared.Refusal.{Refusal}

abbrev pub Output : Type 0
Output = Result Progress Refusal

abbrev pub Listing : Type 0
Listing = Result ℕ Refusal
