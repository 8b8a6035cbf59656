-- Each turn is the next one, and what is left after it is less by it (Laws); the last names no task. Assumes nothing.
use Rattle.std.proofs.Common.{◌≡◌, ◌+◌, ◌-◌, ◌<◌, true, sym, ◌∙◌, arith}
use Rattle.spec.specs.Machine.{machine_of}
use Rattle.spec.specs.Sound.{sound}
use Rattle.turns.specs.Turns.{written}
use Rattle.dispatch_turns.proofs.Laws.{left, left_all, ends, goes_on}
use Rattle.dispatch_turns.proofs.run_turns.Goals as goal

pub loop-i-init : goal.loop-i-init
loop-i-init c = record {
  most = omega arith;
  room = c.requires.0;
  ok = c.requires.1;
  rest = left_all c.args.n (machine_of c.args.s c.args.ns.now c.args.bs.now) c.args.outs.now;
}

pub turn_lent-requires : goal.turn_lent-requires
turn_lent-requires c = (c.loop-i.invariant.room, c.loop-i.invariant.ok)

-- the turn that was taken named a task
abbrev named : (c : goal.In-loop-i) → let z = machine_of c.turn_lent.new.s c.turn_lent.new.ns c.turn_lent.new.bs in
    let y = machine_of c.loop-i.t c.loop-i.ns c.loop-i.bs in
    let n = c.args.n in
    (c.loop-i.i < n) × (sound z ≡ true)
    × (left c.loop-i.i (n - c.loop-i.i) y c.loop-i.outs ≡ left (c.loop-i.i + 1) (n - (c.loop-i.i + 1)) z c.turn_lent.new.outs)
named c =
    goes_on c.loop-i.i c.args.n (machine_of c.loop-i.t c.loop-i.ns c.loop-i.bs) c.loop-i.outs c.loop-i.invariant.room c.loop-i.invariant.ok
    (machine_of c.turn_lent.new.s c.turn_lent.new.ns c.turn_lent.new.bs) c.turn_lent.new.outs c.loop-i-test.ensures

pub overflow_add-i : goal.overflow_add-i
overflow_add-i c = let h : c.loop-i.i < c.args.n = (named c).0 in omega arith

pub loop-i-smaller : goal.loop-i-smaller
loop-i-smaller c = let h : c.loop-i.i < c.args.n = (named c).0 in omega arith

pub loop-i-preserved : goal.loop-i-preserved
loop-i-preserved c = let h = named c in record {
  most = omega (arith, h.0);
  room = omega arith;
  ok = h.1;
  rest = sym h.2 ∙ c.loop-i.invariant.rest;
}

pub returns : goal.returns
returns c = (λ k. written (c.ended.ensures.0 k) (machine_of (c.ended.ensures.1 k) c.turn_lent.new.ns c.turn_lent.new.bs) c.turn_lent.new.outs)
    ∙ sym (ends c.loop-i.i c.args.n (machine_of c.loop-i.t c.loop-i.ns c.loop-i.bs) c.loop-i.outs
    (machine_of c.turn_lent.new.s c.turn_lent.new.ns c.turn_lent.new.bs) c.turn_lent.new.outs c.loop-i-test.ensures)
    ∙ c.loop-i.invariant.rest
