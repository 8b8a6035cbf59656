use Rattle.std.proofs.Common.{◌≡◌, ◌&&◌, drop, eqb}
use Rattle.spec.specs.Lists.{every}
use Rattle.sound_records.proofs.zero_words.Given as goal

-- the or of the words passed is 0 and those to come are 0, exactly where all are
abbrev pub invariant-loop-x : goal.invariant-loop-x
invariant-loop-x l = (eqb l.all 0 && every (λ x. eqb x 0) (drop l.x-index l.x-items)) ≡ every (λ x. eqb x 0) l.x-items
