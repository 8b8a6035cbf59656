use Rattle.std.proofs.Common.{sym, ◌∙◌, arith}
use Rattle.sound_records.proofs.Joined.{all_turn, all_end}
use Rattle.sound_records.proofs.all_true.Goals as goal

pub loop-holds-preserved : goal.loop-holds-preserved
loop-holds-preserved c =
    let loop = c.loop-holds in
    all_turn c.args.w.now loop.holds-index loop.all (omega arith) ∙ loop.invariant

pub returns : goal.returns
returns c =
    let loop = c.loop-holds in
    sym (all_end c.args.w.now loop.holds-index loop.all (omega arith)) ∙ loop.invariant
