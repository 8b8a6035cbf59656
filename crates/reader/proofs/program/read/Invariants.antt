-- What is read stands as defined, with what is lent as long as it was.
use Rattle.std.proofs.Common.{◌≡◌, length}
use Rattle.reader.specs.Verifies.{Reading}
use Rattle.reader.proofs.program.read.Given as goal

abbrev pub invariant-loop-p : goal.invariant-loop-p
invariant-loop-p g l =
    Reading l.fn.reads l.fn.room l.p l.room l.r l.ns l.bs × (length l.room ≡ length l.fn.room) × (length l.ns ≡ length l.fn.ns)
    × (length l.bs ≡ length l.fn.bs)

abbrev pub decreases-loop-p : goal.decreases-loop-p
decreases-loop-p g l = l.p.left
