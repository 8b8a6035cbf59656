-- What is read, printed and known so far, and the lengths of what is lent.
use Rattle.std.proofs.Common.{◌≡◌, length}
use Rattle.stdio.specs.Streams.{Streamed}
use Rattle.line_printers.proofs.read.Given as goal

abbrev pub invariant-loop-p : goal.invariant-loop-p
invariant-loop-p g l =
    let R = g.R.LinePrinter in
    Streamed R.prints_on R.next R.prints R.each R.last (R.once (R.stands l.r l.first l.second)) l.fn.reads l.fn.room
    (R.stands l.fn.begin l.fn.first l.fn.second) l.p l.room (R.stands l.r l.first l.second) l.due l.out
    × R.knows (R.stands l.r l.first l.second) × (length l.room ≡ length l.fn.room) × (length l.out ≡ length l.fn.out) × (length l.p.line.bytes ≡ 41)

abbrev pub decreases-loop-p : goal.decreases-loop-p
decreases-loop-p g l = l.p.left
