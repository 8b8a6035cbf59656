-- What is left of the turns, after i of them (Laws): the loop ends, since a turn that names a task is one of n.
use Rattle.std.proofs.Common.{◌≡◌, ◌-◌, ◌*◌, ◌≤◌, length, true}
use Rattle.spec.specs.Machine.{machine_of}
use Rattle.spec.specs.Sound.{sound}
use Rattle.turns.specs.Turns.{turns_written}
use Rattle.dispatch_turns.proofs.Laws.{left}
use Rattle.dispatch_turns.proofs.run_turns.Given as goal

abbrev pub invariant-loop-i : goal.invariant-loop-i
invariant-loop-i l = record {
  most : l.i ≤ l.n;
  room : 5 * l.n ≤ length l.outs;
  ok : sound (machine_of l.t l.ns l.bs) ≡ true;
  rest : left l.i (l.n - l.i) (machine_of l.t l.ns l.bs) l.outs ≡ turns_written l.n (machine_of l.fn.s l.fn.ns l.fn.bs) l.fn.outs;
}

abbrev pub decreases-loop-i : goal.decreases-loop-i
decreases-loop-i l = l.n - l.i
