-- What a start or a step answers: how far the call has come, or why it is refused. Assumes nothing.
use Rattle.std.specs.Prelude.{Result}
use Rattle.coop_spec.specs.declared.Progress.{Progress}
use Rattle.coop_spec.specs.declared.Refusal.{Refusal}

abbrev pub Output : Type 0
Output = Result Progress Refusal
