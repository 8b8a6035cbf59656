use Rattle.std.proofs.Common.{◌≡◌, ◌&&◌, drop, leb}
use Rattle.spec.specs.Lists.{every}
use Rattle.sound_records.proofs.all_within.Given as goal

-- no word passed is above b and none to come is, exactly where none is at all
abbrev pub invariant-loop-x : goal.invariant-loop-x
invariant-loop-x l = (l.all && every (λ x. leb x l.b) (drop l.x-index l.s)) ≡ every (λ x. leb x l.b) l.s
