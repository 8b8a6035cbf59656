-- `notes_text::print::merged` meets its contract. The three verdicts. Assumes nothing.
use Rattle.std.proofs.Common.{sym, ◌∙◌}
use Rattle.notes_text.proofs.MergedLaws.{none_printed, refusal_printed, short_a, short_b, order_printed}
use Rattle.notes_text.proofs.print.merged.Goals as goal

pub shared_ref_as_front-order : goal.shared_ref_as_front-order
shared_ref_as_front-order c = short_a c.args.a c.args.b c.in-Ok-Some.lanes (rw c.in-Ok-Some.field-0-is at c.in-Ok-Some.ensures)

pub shared_ref_as_front-order-in-Ok-Some : goal.shared_ref_as_front-order-in-Ok-Some
shared_ref_as_front-order-in-Ok-Some c = short_b c.args.a c.args.b c.in-Ok-Some.lanes (rw c.in-Ok-Some.field-0-is at c.in-Ok-Some.ensures)

pub returns-in-Ok-Some : goal.returns-in-Ok-Some
returns-in-Ok-Some c =
    rw (order_printed c.args.a c.args.b c.in-Ok-Some.lanes (rw c.in-Ok-Some.field-0-is at c.in-Ok-Some.ensures)) c.order.ensures

pub returns-in-Ok-None : goal.returns-in-Ok-None
returns-in-Ok-None c =
    rw (none_printed c.args.a c.args.b (rw c.in-Ok-None.field-0-is at c.in-Ok-None.ensures)) c.bytes.ensures

pub returns-in-Err-LongerOrResize : goal.returns-in-Err-LongerOrResize
returns-in-Err-LongerOrResize c =
    rw (refusal_printed c.args.a c.args.b c.in-Err-LongerOrResize.field-0 (sym c.in-Err-LongerOrResize.is ∙ c.merge.ensures)) c.refusal.ensures
