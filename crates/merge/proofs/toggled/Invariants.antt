-- The tag is inside or not as after the calls so far.
use Rattle.std.proofs.Common.{◌≡◌, take}
use Rattle.merge.specs.Inside.{toggled}
use Rattle.merge.proofs.toggled.Given as goal

abbrev pub invariant-loop-x : goal.invariant-loop-x
invariant-loop-x l = l.inside ≡ toggled l.tag l.before (take l.x-index l.calls)
