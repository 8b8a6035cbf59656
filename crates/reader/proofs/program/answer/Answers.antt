-- `reader::program::answer` meets its contract. A line that is too long, or the end. Assumes nothing.
use Rattle.std.proofs.Math.Path.{sym}
use Rattle.std.proofs.Common.{◌∙◌}
use native.Mathlib.Omega.{arith}
use Rattle.reader.proofs.Programs.{long_given, answers_end}
use Rattle.reader.proofs.program.answer.Goals as goal

pub long_gives-g-requires : goal.long_gives-g-requires
long_gives-g-requires g c = c.read-t.ensures.reading.known

pub long_line-requires : goal.long_line-requires
long_line-requires g c =
    let t = c.read-t in
    let e = long_given t.result.input (sym c.has_long.ensures ∙ c.if-has_long.true) in
    let f = t.ensures.reading.follows in
    (f.fits, e, omega (arith, f.long e))

pub returns-then-has_long : goal.returns-then-has_long
returns-then-has_long g c =
    let t = c.read-t in
    let i = t.ensures.reading in
    let e = long_given t.result.input (sym c.has_long.ensures ∙ c.if-has_long.true) in
    c.long_line.ensures _ _ i.place i.follows
    (c.long_gives-g.ensures i.place i.stands (i.long_numbered e) (i.follows.long e))

pub returns : goal.returns
returns g c =
    let t = c.read-t in
    answers_end _ _ t.result.input _ t.result.reader _ _ t.ensures.reading t.ensures.left_bound
    (sym c.has_long.ensures ∙ c.if-has_long.false) c.ended.result c.ended.ensures
