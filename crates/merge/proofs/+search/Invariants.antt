-- By the calls that are left, one fewer with each call of itself.
use Rattle.merge.specs.Trying.{left}
use Rattle.merge.proofs.+search.Given as goal

abbrev pub decreases-search : goal.decreases-search
decreases-search l = left l.a.now l.b.now l.i l.j
