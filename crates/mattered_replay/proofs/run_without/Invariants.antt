-- The whole run goes on from here with the events that are left. Memory is as sound as the opening left it.
use Rattle.std.proofs.Common.{◌≡◌, ◌≤◌, length}
use Rattle.spec.specs.Machine.{machine_of}
use Rattle.spec.specs.Sound.{sound}
use Rattle.mattered_replay.specs.Replay.{noted}
use Rattle.mattered_replay.proofs.Noting.{RunLeft}
use Rattle.mattered_replay.proofs.run_without.Given as goal

abbrev pub invariant-loop-i : goal.invariant-loop-i
invariant-loop-i l = record {
  nodes : length l.ns ≡ length l.fn.ns;
  buckets : length l.bs ≡ length l.fn.bs;
  calls : length l.calls ≡ length l.fn.calls;
  few : l.run.count ≤ l.i;
  run :
      RunLeft l.r.events.now l.k l.r.count (noted (machine_of l.initial.run.state l.initial.ns l.initial.bs) 0 l.fn.calls)
      (noted (machine_of l.run.state l.ns l.bs) l.run.count l.calls) l.i;
  sound : l.run.sound ≡ sound (machine_of l.run.state l.ns l.bs);
}
