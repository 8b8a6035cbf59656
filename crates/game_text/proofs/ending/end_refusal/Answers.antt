-- `game_text::ending::end_refusal` meets its contract: by where the session stands. Assumes nothing.
use Rattle.std.proofs.Common.{inl, inr, refl, sym, ◌∙◌}
use Rattle.laws.specs.RefusalNumbers.{accepts, refuses, never_0}
use Rattle.session_state.specs.declared.Phase.TheVariants.{Due, Events, Stopped}
use Rattle.game_text.specs.Reading.{phase_refusal}
use Rattle.game_text.proofs.Laws.{refused_before, refused_in, judged_refused, judged_accepted}
use Rattle.game_text.proofs.ending.end_refusal.Goals as goal

pub returns-then-t-ne0 : goal.returns-then-t-ne0
returns-then-t-ne0 c = refused_before c.args.t c.args.ns.now c.args.bs.now c.if-t-ne0.true

pub returns-in-Some : goal.returns-in-Some
unfolding phase_refusal
returns-in-Some c =
    let a = c.args in
    let j = c.judge_opening in
    refused_in a.t a.ns.now a.bs.now c.if-t-ne0.false (Due _) c.in-Due.is _
    (rw (sym c.optional.ensures ∙ c.if-optional.true) (c.number.ensures ∙ judged_refused _ _ (refuses j.ensures c.in-Some.is) (never_0 c.in-Some.why)))

pub returns-in_default : goal.returns-in_default
unfolding phase_refusal
returns-in_default c =
    let a = c.args in
    let j = c.judge_opening in
    refused_in a.t a.ns.now a.bs.now c.if-t-ne0.false (Due _) c.in-Due.is _
    (rw (sym c.optional.ensures ∙ c.if-optional.true) (judged_accepted 0 _ (sym (accepts j.ensures c.in_default.is)) refl))

pub returns-else-optional : goal.returns-else-optional
unfolding phase_refusal
returns-else-optional c =
    let a = c.args in
    refused_in a.t a.ns.now a.bs.now c.if-t-ne0.false (Due _) c.in-Due.is _ (rw (sym c.optional.ensures ∙ c.if-optional.false) refl)

pub returns-in-Events : goal.returns-in-Events
unfolding phase_refusal
returns-in-Events c =
    let a = c.args in
    let at = refused_in a.t a.ns.now a.bs.now c.if-t-ne0.false in
    elim c.in-Events.is [ inl e ↦ at Events e _ refl | inr e ↦ at Stopped e _ refl ]
