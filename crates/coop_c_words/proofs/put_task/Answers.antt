-- Nine words, put back into the whole.
use Rattle.std.proofs.Common.{◌+◌, ◌-◌, ◌≡◌, arith}
use Rattle.yard_words.proofs.Made.{bit_is}
use Rattle.yard_words.proofs.Over.{over_part}
use Rattle.coop_c_words.proofs.put_task.Goals as goal

pub returns : goal.returns
returns c =
    let long : 9 ≡ c.args.at + 9 - c.args.at = omega arith in
    over_part _ _ _ _ _ (rw (c.from.ensures, c.from-2.ensures, bit_is c.args.c.running) at c.copy_from_slice.ensures.after) long
