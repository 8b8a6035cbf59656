use Rattle.std.proofs.Common.{◌*◌, ◌-◌, drop}
use Rattle.coop_spec.specs.Machine.{machine_of}
use Rattle.coop_words.specs.Events.{events_of}
use Rattle.coop_schedule.proofs.Laws.{Rest}
use Rattle.coop_schedule.proofs.run_events.Given as goal

abbrev pub invariant-loop-i : goal.invariant-loop-i
invariant-loop-i l =
    Rest (machine_of l.initial.t l.initial.vs) l.initial.outs (events_of l.n l.events) (machine_of l.t l.vs) l.outs (4 * l.i)
    (events_of (l.n - l.i) (drop (4 * l.i) l.events))
