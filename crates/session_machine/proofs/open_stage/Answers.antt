-- The stage, or the refusal's number.
use Rattle.std.proofs.Common.{◌≡◌, ap, ◌∙◌}
use Rattle.session_machine.specs.declared.Stage.TheVariants.{OpeningRefused}
use Rattle.session_machine.proofs.Laws.{accepted, refused}
use Rattle.session_machine.proofs.open_stage.Goals as goal

pub returns-in-None : goal.returns-in-None
returns-in-None c = accepted _ _ c.open-o.result _ _ _ c.open-o.ensures c.in-None.is

pub returns-in-Some : goal.returns-in-Some
returns-in-Some c = rw c.number.ensures (refused _ _ c.open-o.result _ _ _ c.open-o.ensures c.in-Some.why c.in-Some.is)
