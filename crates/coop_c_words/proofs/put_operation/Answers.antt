-- Five words, put back into the whole.
use Rattle.std.proofs.Common.{◌+◌, ◌-◌, ◌≡◌, arith}
use Rattle.yard_words.proofs.Made.{bit_is}
use Rattle.yard_words.proofs.Over.{over_part}
use Rattle.coop_c_words.proofs.put_operation.Goals as goal

pub returns : goal.returns
returns c =
    let long : 5 ≡ c.args.at + 5 - c.args.at = omega arith in
    over_part _ _ _ _ _ (rw (c.from.ensures, c.from-2.ensures, c.from-3.ensures, bit_is c.args.op.resp, bit_is c.args.op.done, bit_is c.args.op.returned) at c.copy_from_slice.ensures.after) long
