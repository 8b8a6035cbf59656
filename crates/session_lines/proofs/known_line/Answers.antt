-- Each phase by the function of that phase.
use Rattle.session_state.specs.declared.Phase.TheVariants.{Due, Events, Stopped}
use Rattle.session_state.specs.Handling.{phase_effect}
use Rattle.session_lines.specs.KnownMemory.{known_events}
use Rattle.session_lines.proofs.Laws.{handles, does_nothing}
use Rattle.session_lines.proofs.known_line.Goals as goal

pub event_line-requires : goal.event_line-requires
event_line-requires c = known_events _ _ _ c.in-Events.is c.requires

pub returns-in-Due : goal.returns-in-Due
unfolding phase_effect
returns-in-Due c = handles c.args.s (Due c.in-Due.due) c.in-Due.is _ _ _ _ _ _ _ _ c.header_line.ensures

pub returns-in-Events : goal.returns-in-Events
unfolding phase_effect
returns-in-Events c = handles c.args.s Events c.in-Events.is _ _ _ _ _ _ _ _ c.event_line.ensures

pub returns-in-Stopped : goal.returns-in-Stopped
unfolding phase_effect
returns-in-Stopped c = handles c.args.s Stopped c.in-Stopped.is _ _ _ _ _ _ _ _ (does_nothing _ _ _ _)
