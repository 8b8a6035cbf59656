-- The bytes of the line that are read so far are passed over, and the room keeps its length.
use Rattle.std.proofs.Common.{◌≡◌, length}
use Rattle.stdio.proofs.Closing.{Passing}
use Rattle.stdio.proofs.rest.close_line.Given as goal

abbrev pub invariant-loop-q : goal.invariant-loop-q
invariant-loop-q g l = Passing l.fn.p l.fn.room l.q l.room × (length l.room ≡ length l.fn.room)

abbrev pub decreases-loop-q : goal.decreases-loop-q
decreases-loop-q g l = l.q.left
