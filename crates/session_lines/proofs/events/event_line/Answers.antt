-- The three cases of the line, as `event_effect` says.
use Rattle.std.proofs.Common.{sym, ◌∙◌}
use Rattle.session_state.proofs.Laws.{keeps}
use Rattle.session_state.specs.Handling.{event_effect}
use Rattle.session_lines.proofs.events.event_line.Goals as goal

pub returns-in-Some-Start : goal.returns-in-Some-Start
unfolding event_effect
returns-in-Some-Start c = rw (sym c.event_line.ensures ∙ c.in-Some-Start.is, c.in-Some-Start.field-0-is) (c.start_task.ensures _ _ c.requires)

pub returns-in-Some-Step : goal.returns-in-Some-Step
unfolding event_effect
returns-in-Some-Step c = rw (sym c.event_line.ensures ∙ c.in-Some-Step.is, c.in-Some-Step.field-0-is) c.step_task.ensures

pub returns-in-None : goal.returns-in-None
unfolding event_effect
returns-in-None c = rw (sym c.event_line.ensures ∙ c.in-None.is) (keeps _ _ _ _ _ _ c.stop.ensures)
