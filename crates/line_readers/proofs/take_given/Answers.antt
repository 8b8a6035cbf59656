-- `line_readers::take_given` meets its contract. Assumes nothing.
use Rattle.std.proofs.Common.{refl, sym, ap, ◌∙◌}
use Rattle.stdio.specs.Readers.{after_call}
use Rattle.line_readers.proofs.take_given.Goals as goal

pub returns-then-has_line : goal.returns-then-has_line
unfolding after_call
returns-then-has_line g c =
    let a = c.args in
    let R = g.R.LineReader in
    rw (sym c.has_line.ensures ∙ c.if-has_line.true)
    (c.take_line.ensures ∙ ap (R.next (R.stands a.r a.first.now a.second.now)) c.as_bytes.ensures.bytes)

pub returns-else-has_line : goal.returns-else-has_line
unfolding after_call
returns-else-has_line g c = rw (sym c.has_line.ensures ∙ c.if-has_line.false) refl
