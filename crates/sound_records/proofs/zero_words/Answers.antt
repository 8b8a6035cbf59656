use Rattle.std.proofs.Common.{◌≡◌, ◌+◌, ◌-◌, sym, ◌∙◌, arith, drop}
use Rattle.sound_records.proofs.Zeros.{zeros_every, or_turn, or_end}
use Rattle.sound_records.proofs.zero_words.Goals as goal

pub loop-x-preserved : goal.loop-x-preserved
loop-x-preserved c =
    let loop = c.loop-x in
    or_turn _ loop.x-index loop.all c.loop-x-test.true ∙ loop.invariant

pub returns : goal.returns
returns c =
    let loop = c.loop-x in
    let a = c.args in
    let n : a.first + a.n - a.first ≡ a.n = omega arith in
    rw (zeros_every a.n (drop a.first a.w.now), ← n) (sym (or_end _ loop.x-index loop.all c.loop-x-test.false) ∙ loop.invariant)
