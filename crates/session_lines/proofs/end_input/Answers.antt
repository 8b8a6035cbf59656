-- Each phase, as `phase_end` says.
use Rattle.std.proofs.Common.{sym, ◌∙◌}
use Rattle.session_state.proofs.Laws.{keeps}
use Rattle.session_state.specs.declared.Phase.TheVariants.{Due, Events, Stopped}
use Rattle.session_state.specs.Handling.{listing_effect, phase_end}
use Rattle.session_lines.proofs.Laws.{ends, does_nothing, opens_then, refuses_then}
use Rattle.session_lines.proofs.end_input.Goals as goal

pub returns-in-None : goal.returns-in-None
unfolding phase_end listing_effect
returns-in-None c =
    ends c.args.s (Due c.in-Due.due) c.in-Due.is _ _ _ _ _ _ _
    (rw (sym c.optional.ensures ∙ c.if-optional.true)
    (opens_then _ _ _ c.open-o.result _ _ c.open-o.ensures listing_effect _ _ _ _ _ c.in-None.is (keeps _ _ _ _ _ _ c.listing.ensures)))

pub returns-in-Some : goal.returns-in-Some
unfolding phase_end
returns-in-Some c =
    ends c.args.s (Due c.in-Due.due) c.in-Due.is _ _ _ _ _ _ _
    (rw (sym c.optional.ensures ∙ c.if-optional.true)
    (refuses_then _ _ _ c.open-o.result _ _ c.open-o.ensures _ _ _ _ _ _ c.in-Some.why c.in-Some.is (rw (← c.number.ensures) (keeps _ _ _ _ _ _ c.stop.ensures))))

pub returns-in-Due-2 : goal.returns-in-Due-2
unfolding phase_end
returns-in-Due-2 c =
    ends c.args.s (Due c.in-Due.due) c.in-Due.is _ _ _ _ _ _ _
    (rw (sym c.optional.ensures ∙ c.if-optional.false) (keeps _ _ _ _ _ _ c.stop-in-Due-2.ensures))

pub returns-in-Events : goal.returns-in-Events
unfolding phase_end listing_effect
returns-in-Events c = ends c.args.s Events c.in-Events.is _ _ _ _ _ _ _ (keeps _ _ _ _ _ _ c.listing-in-Events.ensures)

pub returns-in-Stopped : goal.returns-in-Stopped
unfolding phase_end
returns-in-Stopped c = ends c.args.s Stopped c.in-Stopped.is _ _ _ _ _ _ _ (does_nothing _ _ _ _)
