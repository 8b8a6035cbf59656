-- `game_text::take_line` meets its contract: by where the session stands. Assumes nothing.
use Rattle.session_state.specs.declared.Phase.TheVariants.{Due, Events, Stopped}
use Rattle.game_text.specs.Reading.{refused_with, phase_taken}
use Rattle.game_text.proofs.Laws.{refused_at, phase_at, stays_at}
use Rattle.game_text.proofs.take_line.Goals as goal

pub returns-then-t-ne0 : goal.returns-then-t-ne0
returns-then-t-ne0 c = let a = c.args in refused_at a.t a.ns.now a.bs.now _ c.if-t-ne0.true

pub returns-in-Due : goal.returns-in-Due
unfolding phase_taken
returns-in-Due c = let a = c.args in phase_at a.t a.ns.now a.bs.now _ c.if-t-ne0.false (Due _) c.in-Due.is _ _ _ c.header_line.ensures

pub returns-in-Events : goal.returns-in-Events
unfolding phase_taken
returns-in-Events c = let a = c.args in phase_at a.t a.ns.now a.bs.now _ c.if-t-ne0.false Events c.in-Events.is _ _ _ c.turn_line.ensures

pub returns-in-Stopped : goal.returns-in-Stopped
unfolding phase_taken
returns-in-Stopped c =
    let a = c.args in
    phase_at a.t a.ns.now a.bs.now _ c.if-t-ne0.false Stopped c.in-Stopped.is _ _ _
    (stays_at (refused_with 10 a.t) _ a.ns.now a.bs.now c.outside.ensures)
