-- `recorder::record_line` meets its contract. Each phase by the function of that phase. Assumes nothing.
use Rattle.session_state.specs.declared.Phase.TheVariants.{Due, Events, Stopped}
use Rattle.session_lines.proofs.Laws.{does_nothing}
use Rattle.recorder.specs.LentRecorder.{recorded_phase}
use Rattle.recorder.proofs.Laws.{stands_at}
use Rattle.recorder.proofs.record_line.Goals as goal

pub returns-in-Due : goal.returns-in-Due
unfolding recorded_phase
returns-in-Due c = stands_at (Due c.in-Due.due) _ _ c.args.s _ _ _ _ _ _ _ c.in-Due.is c.header_line.ensures

pub returns-in-Events : goal.returns-in-Events
unfolding recorded_phase
returns-in-Events c = stands_at Events _ c.args.k c.args.s _ _ _ _ _ _ _ c.in-Events.is c.event_line.ensures

pub returns-in-Stopped : goal.returns-in-Stopped
unfolding recorded_phase
returns-in-Stopped c = stands_at Stopped _ c.args.k c.args.s _ _ _ _ _ _ _ c.in-Stopped.is (does_nothing _ _ _ _)
