-- The run follows its beginning.
use Rattle.std.proofs.Common.{◌≡◌, length}
use Rattle.stdio.specs.Readers.{Follows}
use Rattle.line_readers.proofs.text.Given as goal

abbrev pub invariant-loop-p : goal.invariant-loop-p
invariant-loop-p g l =
    let R = g.R.LineReader in
    Follows R.answer l.fn.reads l.fn.room (R.stands l.fn.begin l.fn.first l.fn.second) l.p l.room (R.stands l.r l.first l.second)
    × (length l.p.line.bytes ≡ 41)

abbrev pub decreases-loop-p : goal.decreases-loop-p
decreases-loop-p g l = l.p.left
