use Rattle.std.proofs.Common.{refl, sym, ◌∙◌}
use Rattle.spec.specs.Machine.{state_head, state_last_node, state_last_bucket, state_task}
use Rattle.lines.proofs.Settling.{changes_below, moved_on, moved_off}
use Rattle.lines.proofs.settle.Goals as goal

pub returns-then-not-changes : goal.returns-then-not-changes
returns-then-not-changes c = λ ns bs. moved_off c.args.s c.args.k c.args.m ns bs refl (sym c.changes.ensures ∙ c.if-not-changes.true)

pub bounds-t-k : goal.bounds-t-k
bounds-t-k c = changes_below _ _ (sym c.changes.ensures ∙ c.if-not-changes.false)

pub returns : goal.returns
unfolding state_head state_last_node state_last_bucket state_task
returns c = λ ns bs. moved_on c.args.s c.args.k c.args.m ns bs refl (sym c.changes.ensures ∙ c.if-not-changes.false)
