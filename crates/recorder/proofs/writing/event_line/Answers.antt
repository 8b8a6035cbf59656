-- `recorder::writing::event_line` meets its contract. The line and then what the session prints for it, or the end of the session's
-- input. Assumes nothing.
use Rattle.std.proofs.Common.{sym, ◌∙◌, arith, rules}
use Rattle.session.specs.Grammar.{closed_line}
use Rattle.session_bytes.proofs.Laws.{ends_within}
use Rattle.recording.specs.Recording.{close}
use Rattle.recorder.proofs.Laws.{both_within, written_after, event_is, no_event}
use Rattle.recorder.proofs.writing.event_line.Goals as goal

pub slice_bounds-known_line-count : goal.slice_bounds-known_line-count
slice_bounds-known_line-count c = ends_within (close c.args.line.now) c.args.out.now _ _ (search rules)

pub slice_bounds-known_line-start : goal.slice_bounds-known_line-start
slice_bounds-known_line-start c = ends_within (close c.args.line.now) c.args.out.now _ _ (search rules)

pub overflow_add-result : goal.overflow_add-result
overflow_add-result c =
    let t = c.known_line-t in
    omega (arith, both_within (close c.args.line.now) c.args.out.now _ _ _ c.printed-n.result t.result.printed t.ensures.wrote (search rules))

pub returns-then-is_event : goal.returns-then-is_event
returns-then-is_event c =
    let a = c.args in
    let l = closed_line a.line.now in
    let t = c.known_line-t in
    event_is l a.s _ _ _ _ _ _ _ (sym c.is_event.ensures ∙ c.if-is_event.true)
    (written_after (close l.bytes) a.out.now _ c.printed-n.result (ends_within (close l.bytes) a.out.now _ _ (search rules))
    (search rules) _ t.result _ _ _ t.ensures)

pub returns-else-is_event : goal.returns-else-is_event
returns-else-is_event c =
    no_event (closed_line c.args.line.now) c.args.s _ _ _ _ _ _ _ (sym c.is_event.ensures ∙ c.if-is_event.false) c.end_input.ensures
