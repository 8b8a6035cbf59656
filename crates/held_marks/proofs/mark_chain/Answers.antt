use Rattle.std.proofs.Common.{◌≡◌, ◌+◌, ◌-◌, arith}
use Rattle.spec.specs.Held.{chain}
use Rattle.held_marks.proofs.Laws.{chain_none, chain_end, chain_turn, finish}
use Rattle.held_marks.proofs.mark_chain.Goals as goal

pub loop-init : goal.loop-init
loop-init c = λ q. let e : c.args.h - 0 ≡ c.args.h = omega arith in rw e (λ r. r)

pub returns-then-at-eq0 : goal.returns-then-at-eq0
returns-then-at-eq0 c =
    let a = c.args in
    let w = a.ns.now in
    let left = a.h - c.loop.counter in
    finish (chain w left c.loop.at) _ (chain_none w left c.loop.at c.if-at-eq0.true) c.loop.invariant

pub loop-preserved : goal.loop-preserved
loop-preserved c =
    let a = c.args in
    let w = a.ns.now in
    let left = a.h - c.loop.counter in
    let e : a.h - (c.loop.counter + 1) ≡ left - 1 = omega arith in
    rw (c.pred_of-at.ensures, e)
    (chain_turn w left c.loop.at (chain w a.h a.from) (omega arith) c.if-at-eq0.false c.loop.invariant c.mark.ensures)

pub returns : goal.returns
returns c =
    let a = c.args in
    let w = a.ns.now in
    let left = a.h - c.loop.counter in
    finish (chain w left c.loop.at) _ (chain_end w left c.loop.at (omega arith)) c.loop.invariant
