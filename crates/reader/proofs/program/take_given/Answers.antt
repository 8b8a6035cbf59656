-- `reader::program::take_given` meets its contract. A closed line is read, and otherwise nothing. Assumes nothing.
use Rattle.std.proofs.Common.{sym, ◌∙◌}
use Rattle.reader.proofs.Programs.{takes_line, takes_none}
use Rattle.reader.proofs.program.take_given.Goals as goal

pub returns : goal.returns
returns c =
    let a = c.args in
    takes_line a.r a.ns.now a.bs.now a.q _ _ _ _ (sym c.has_line.ensures ∙ c.if-not-has_line.false)
    c.as_bytes.ensures.bytes c.read_line.ensures

pub returns-then-not-has_line : goal.returns-then-not-has_line
returns-then-not-has_line c =
    let a = c.args in
    takes_none a.r a.ns.now a.bs.now a.q (sym c.has_line.ensures ∙ c.if-not-has_line.true)
