use Rattle.std.proofs.Common.{arith}
use Rattle.spec.specs.Words.{places}
use Rattle.held_marks.proofs.Laws.{finish}
use Rattle.held.proofs.Laws.{places_from, places_all, places_on, places_none}
use Rattle.held.proofs.mark_places.Goals as goal

pub loop-i-init : goal.loop-i-init
loop-i-init c = λ q. rw (places_all c.args.ns.now c.args.k) (λ r. r)

pub loop-i-preserved : goal.loop-i-preserved
loop-i-preserved c =
    let a = c.args in
    let w = a.ns.now in
    let here = rw c.place_at.ensures at c.mark.ensures in
    places_on w a.k c.loop-i.i (places w a.k) c.loop-i-test.true c.loop-i.invariant here

pub returns : goal.returns
returns c =
    let a = c.args in
    let w = a.ns.now in
    let i = c.loop-i.i in
    finish (places_from w a.k i) (places w a.k) (places_none w a.k i (omega arith)) c.loop-i.invariant
