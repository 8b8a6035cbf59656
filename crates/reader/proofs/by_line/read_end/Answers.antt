-- `reader::by_line::read_end` meets its contract. Each phase, as `phase_end` says. Assumes nothing.
use Rattle.std.proofs.Common.{refl, sym, ap, ◌∙◌, inl, inr}
use Rattle.laws.specs.RefusalNumbers.{accepts, refuses, never_0}
use Rattle.recording.specs.declared.Verdict.TheVariants.{Refusal}
use Rattle.recording.specs.declared.ReaderPhase.TheVariants.{Due, Event, Printed, Listed, Decided}
use Rattle.reader_state.specs.Standing.{missing, answer_at_end, phase_end}
use Rattle.reader.proofs.Turns.{reads_end, ends_answered, judged_refused, judged_accepted}
use Rattle.reader.proofs.by_line.read_end.Goals as goal

pub returns-in-None : goal.returns-in-None
unfolding phase_end
returns-in-None c =
    let j = c.judge_opening in
    reads_end c.args.r (Due _) c.in-Due.is _ _ _ _
    (rw (sym c.optional.ensures ∙ c.if-not-optional.false) (judged_accepted 0 _ _ (sym (accepts j.ensures c.in-None.is)) refl c.missing-refusal.ensures))

pub returns-in-Some : goal.returns-in-Some
unfolding phase_end
returns-in-Some c =
    let j = c.judge_opening in
    reads_end c.args.r (Due _) c.in-Due.is _ _ _ _
    (rw (sym c.optional.ensures ∙ c.if-not-optional.false) (ap Refusal c.number.ensures ∙ judged_refused _ _ _ (refuses j.ensures c.in-Some.is) (never_0 c.in-Some.why)))

pub returns-then-closed : goal.returns-then-closed
unfolding phase_end
returns-then-closed c = reads_end c.args.r (Listed _) c.in-Listed.is _ _ _ _ (rw c.if-closed.true c.listed_end.ensures)

pub returns-then-not-optional : goal.returns-then-not-optional
unfolding phase_end
returns-then-not-optional c =
    reads_end c.args.r (Due _) c.in-Due.is _ _ _ _ (rw (sym c.optional.ensures ∙ c.if-not-optional.true) (ap Refusal c.missing-refusal.ensures))

pub returns-else-closed : goal.returns-else-closed
unfolding phase_end
returns-else-closed c =
    reads_end c.args.r (Listed _) c.in-Listed.is _ _ _ _ (rw c.if-closed.false (ap Refusal (c.missing-refusal.ensures ∙ ap missing c.if-closed.false)))

pub returns-in-Event : goal.returns-in-Event
unfolding phase_end answer_at_end
returns-in-Event c =
    let r = c.args.r in
    let m = c.missing-refusal.ensures in
    let e = c.answer_at_end.ensures in
    elim c.in-Event.is [
      | inl p ↦ reads_end r Event p _ _ _ _ (ends_answered r.phase Event p _ _ m _ e)
      | inr q ↦ elim q [
        | inl t ↦ reads_end r (Printed _ _) t.2 _ _ _ _ (ends_answered r.phase (Printed _ _) t.2 _ _ m _ e)
        | inr t ↦ reads_end r (Decided _) t.1 _ _ _ _ (ends_answered r.phase (Decided _) t.1 _ _ m _ e)
      ]
    ]
