-- Each return is a case of `turn` by the tests that led there.
use Rattle.std.proofs.Common.{sym, ◌∙◌}
use Rattle.spec.specs.Machine.{machine_of}
use Rattle.dispatch.proofs.TurnLaws.{spoilt, nothing_runs, turn_goes}
use Rattle.dispatch.proofs.turn.Goals as goal

pub returns-in-Some : goal.returns-in-Some
returns-in-Some c =
    let a = c.args in
    let y = machine_of a.s a.ns.now a.bs.now in
    let next = sym (rw c.in-Some.is at (c.next_task.ensures a.ns.now a.bs.now)) in
    rw c.after_step.ensures (turn_goes y c.in-Some.k next c.step-r.result _ _ c.step-r.ensures)

pub returns-then-sound : goal.returns-then-sound
returns-then-sound c =
    let a = c.args in
    let none = sym (rw c.in_default.is at (c.next_task.ensures a.ns.now a.bs.now)) in
    nothing_runs (machine_of a.s a.ns.now a.bs.now) (sym c.sound.ensures ∙ c.if-sound.true) none

pub returns-else-sound : goal.returns-else-sound
returns-else-sound c =
    let a = c.args in
    spoilt (machine_of a.s a.ns.now a.bs.now) (sym c.sound.ensures ∙ c.if-sound.false)
