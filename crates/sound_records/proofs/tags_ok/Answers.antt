use Rattle.std.proofs.Common.{◌≡◌, arith, get_or}
use Rattle.spec.specs.Lists.{ascending}
use Rattle.sound_records.proofs.tags_ok.Goals as goal

-- no tags
pub returns-then-c-eq0 : goal.returns-then-c-eq0
unfolding ascending
returns-then-c-eq0 c =
    let none : get_or c.args.w.now 1 0 ≡ 0 = omega (arith, c.if-c-eq0.true) in
    rw none c.zero_words.ensures
