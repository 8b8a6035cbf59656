-- n turns were taken, or nothing runs, or the task that is next is stepped, and the task chosen last is stored with what its step changes.
use Rattle.std.proofs.Common.{◌≡◌, length, refl, sym, ◌∙◌, rules}
use Rattle.spec.specs.Machine.{machine_of, task_of, idle, state_head, state_last_node, state_last_bucket, state_task, state_chosen, with_chosen, with_state}
use Rattle.pool.proofs.Laws.{length_mapped}
use Rattle.lines.proofs.Settling.{changes_below, moved_on, moved_off}
use Rattle.dispatch.proofs.TurnLaws.{nothing_runs}
use Rattle.dispatch_turns.proofs.Laws.{none_room, none_runs, names_one}
use Rattle.dispatch_turns.proofs.turn_taken.Goals as goal

pub returns-then-n-i : goal.returns-then-n-i
returns-then-n-i c =
    let a = c.args in
    none_room a.i a.n (machine_of a.s a.ns.now a.bs.now) a.outs.now c.if-n-i.true

pub returns-in_default : goal.returns-in_default
returns-in_default c =
    let a = c.args in
    let y = machine_of a.s a.ns.now a.bs.now in
    let none = sym (rw c.in_default.is at (c.next_task.ensures a.ns.now a.bs.now)) in
    none_runs a.i a.n y a.outs.now c.if-n-i.false (nothing_runs y c.requires.1 none)

pub step-m-requires : goal.step-m-requires
unfolding task_of idle
step-m-requires c =
    let a = c.args in
    let eight : length a.s.task ≡ 8 = search (rules, length_mapped) in
    rw c.requires.1 (c.known_sound-d.ensures (machine_of a.s a.ns.now a.bs.now) eight refl)

pub bounds-t-j : goal.bounds-t-j
bounds-t-j c = changes_below _ _ (sym c.changes.ensures ∙ c.if-changes.true)

pub returns-then-changes : goal.returns-then-changes
unfolding state_head state_last_node state_last_bucket state_task state_chosen with_chosen with_state
returns-then-changes c =
    let a = c.args in
    let k = c.in-Some.k in
    let next = sym (rw c.in-Some.is at (c.next_task.ensures a.ns.now a.bs.now)) in
    let reply = moved_on a.s k c.step-m.result _ _ c.step-m.ensures.reply (sym c.changes.ensures ∙ c.if-changes.true) in
    names_one a.i a.n (machine_of a.s a.ns.now a.bs.now) a.outs.now c.if-n-i.false c.requires.1 k next _ _ reply _
    c.chosen_after-last.ensures _ c.put_named.ensures

pub returns-else-changes : goal.returns-else-changes
unfolding state_head state_last_node state_last_bucket state_task state_chosen with_chosen with_state
returns-else-changes c =
    let a = c.args in
    let k = c.in-Some.k in
    let next = sym (rw c.in-Some.is at (c.next_task.ensures a.ns.now a.bs.now)) in
    let reply = moved_off a.s k c.step-m.result _ _ c.step-m.ensures.reply (sym c.changes.ensures ∙ c.if-changes.false) in
    names_one a.i a.n (machine_of a.s a.ns.now a.bs.now) a.outs.now c.if-n-i.false c.requires.1 k next _ _ reply _
    c.chosen_after-last.ensures _ c.put_named.ensures
