use Rattle.std.proofs.Common.{◌≡◌, ◌&&◌, drop}
use Rattle.spec.specs.Lists.{all_true}
use Rattle.sound_records.proofs.all_true.Given as goal

-- those passed and those to come all hold exactly where all hold
abbrev pub invariant-loop-holds : goal.invariant-loop-holds
invariant-loop-holds l = (l.all && all_true (drop l.holds-index l.w)) ≡ all_true l.w
