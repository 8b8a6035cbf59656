-- Thirteen words, put back into the whole.
use Rattle.std.proofs.Common.{◌+◌, ◌-◌, ◌≡◌, arith}
use Rattle.yard_words.proofs.Over.{over_part}
use Rattle.yard_words.proofs.put_task.Goals as goal

pub returns : goal.returns
returns c =
    let long : 13 ≡ c.args.at + 13 - c.args.at = omega arith in
    over_part _ _ _ _ _ (rw (c.bit.ensures, c.from.ensures) at c.copy_from_slice.ensures.after) long
