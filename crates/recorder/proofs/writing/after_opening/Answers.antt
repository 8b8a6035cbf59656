-- `recorder::writing::after_opening` meets its contract. The kept lines, and behind them the line, or what it gives as an event's.
-- Assumes nothing.
use Rattle.std.proofs.Common.{◌≡◌, refl, arith, rules}
use Rattle.session.specs.Buffer.{buffer, append}
use Rattle.session_bytes.proofs.Laws.{ends_within}
use Rattle.session_state.specs.Handling.{silent, pools_kept}
use Rattle.recorder_lines.specs.KeptLines.{kept_bytes}
use Rattle.recorder.specs.LentRecorder.{after_bytes, first_recorded}
use Rattle.recorder.proofs.Laws.{both_within, written_after, line_after}
use Rattle.recorder.proofs.writing.after_opening.Goals as goal

pub returns-then-own : goal.returns-then-own
unfolding after_bytes first_recorded silent pools_kept
returns-then-own c =
    let a = c.args in
    let kept : buffer c.bytes.new.self.out.now c.bytes.new.self.printed ≡ append (kept_bytes a.k) (buffer a.out.now 0) = search rules in
    rw c.if-own.true
    (record { next = refl; nodes = refl; buckets = refl; wrote = line_after (kept_bytes a.k) a.line.now a.out.now _ _ kept (search rules) })

pub slice_bounds-event_line-count : goal.slice_bounds-event_line-count
slice_bounds-event_line-count c = ends_within (kept_bytes c.args.k) c.args.out.now _ _ (search rules)

pub slice_bounds-event_line-start : goal.slice_bounds-event_line-start
slice_bounds-event_line-start c = ends_within (kept_bytes c.args.k) c.args.out.now _ _ (search rules)

pub overflow_add-result : goal.overflow_add-result
overflow_add-result c =
    let t = c.event_line-t in
    omega (arith, both_within (kept_bytes c.args.k) c.args.out.now _ _ _ c.printed-n.result t.result.printed t.ensures.wrote (search rules))

pub returns : goal.returns
unfolding first_recorded
returns c =
    let a = c.args in
    let t = c.event_line-t in
    rw c.if-own.false
    (written_after (kept_bytes a.k) a.out.now _ c.printed-n.result (ends_within (kept_bytes a.k) a.out.now _ _ (search rules))
    (search rules) _ t.result _ _ _ t.ensures)
