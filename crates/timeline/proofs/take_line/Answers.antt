-- What the session prints for the line is kept, the front of the row is printed, and then that.
use Rattle.std.proofs.Common.{sym, arith, rules}
use Rattle.std.proofs.Math.Seq.{length-take-le}
use Rattle.session.specs.Grammar.{closed_line}
use Rattle.timeline.proofs.Laws.{printed_within, takes}
use Rattle.timeline.proofs.take_line.Goals as goal

pub slice_bounds-printed-end : goal.slice_bounds-printed-end
slice_bounds-printed-end c =
    let h = c.handle_line-d in
    omega (arith, printed_within c.args.t _ _ _ h.result _ _ _ _ h.ensures (sym c.room-printed.ensures), h.auto.out, c.room-printed.ensures)

pub slice_bounds-bytes-end : goal.slice_bounds-bytes-end
slice_bounds-bytes-end c =
    let h = c.handle_line-d in
    let within = printed_within c.args.t _ _ _ h.result _ _ _ _ h.ensures (sym c.room-printed.ensures) in
    sym (length-take-le h.result.printed _ (omega (arith, within, h.auto.out, c.room-printed.ensures)))

pub returns : goal.returns
returns c =
    let h = c.handle_line-d in
    let page = c.front.new.page in
    takes c.args.t _ _ (closed_line c.args.line.now) h.result _ _ _ _ h.ensures (sym c.room-printed.ensures) _ _ page.out.now _ page.printed _ _
    c.taken.result c.event_line-asked.ensures (search rules) (search rules) c.count_after-events.ensures c.taken.ensures
