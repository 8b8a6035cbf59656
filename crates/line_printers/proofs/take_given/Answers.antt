-- A line, or none.
use Rattle.std.proofs.Common.{sym, ◌∙◌, arith}
use Rattle.session.specs.BufferLaws.{append_within}
use Rattle.session_lines.specs.BufferParts.{rest_length}
use Rattle.line_printers.proofs.Laws.{took_line, took_none}
use Rattle.line_printers.proofs.take_given.Goals as goal

pub overflow_add-result : goal.overflow_add-result
overflow_add-result g c =
    omega (arith, append_within _ _ _ _ c.take_line-t.ensures.prints, rest_length c.args.out.now c.args.due, c.requires.room)

pub returns-then-has_line : goal.returns-then-has_line
returns-then-has_line g c =
    let a = c.args in
    let R = g.R.LinePrinter in
    took_line R.prints_on R.next R.prints _ a.q a.due a.out.now (sym c.has_line.ensures ∙ c.if-has_line.true) _ c.as_bytes.ensures.bytes
    _ c.take_line-t.ensures.next _ _ c.take_line-t.ensures.prints c.requires.room

pub returns-else-has_line : goal.returns-else-has_line
returns-else-has_line g c =
    let a = c.args in
    let R = g.R.LinePrinter in
    took_none R.prints_on R.next R.prints _ a.q a.due a.out.now (sym c.has_line.ensures ∙ c.if-has_line.false)
