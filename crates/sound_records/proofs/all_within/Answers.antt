use Rattle.std.proofs.Common.{sym, ◌∙◌, arith, leb}
use Rattle.sound_records.proofs.Joined.{every_turn, every_end}
use Rattle.sound_records.proofs.all_within.Goals as goal

pub loop-x-preserved : goal.loop-x-preserved
loop-x-preserved c =
    let loop = c.loop-x in
    every_turn (λ x. leb x c.args.b) c.args.s.now loop.x-index loop.all (omega arith) ∙ loop.invariant

pub returns : goal.returns
returns c =
    let loop = c.loop-x in
    sym (every_end (λ x. leb x c.args.b) c.args.s.now loop.x-index loop.all (omega arith)) ∙ loop.invariant
