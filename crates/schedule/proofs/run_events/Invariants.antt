use Rattle.std.proofs.Common.{◌≡◌, ◌*◌, ◌-◌, length, drop, true}
use Rattle.spec.specs.Machine.{machine_of}
use Rattle.spec.specs.Sound.{sound}
use Rattle.schedule_events.specs.Events.{events_of}
use Rattle.schedule.proofs.Laws.{Rest}
use Rattle.schedule.proofs.run_events.Given as goal

-- memory is sound, and what is left to run leaves what all of it leaves
abbrev pub invariant-loop-i : goal.invariant-loop-i
invariant-loop-i l =
    record {
      still_sound : sound (machine_of l.t l.ns l.bs) ≡ true;
      eight : length l.t.task ≡ 8;
      left : Rest (machine_of l.initial.t l.initial.ns l.initial.bs) l.initial.outs (events_of l.n l.events) (machine_of l.t l.ns l.bs) l.outs (4 * l.i)
          (events_of (l.n - l.i) (drop (4 * l.i) l.events));
    }
