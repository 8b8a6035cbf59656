-- The machine and the words of the whole run are those of running the remaining events from the present machine, with their outputs after those written.
-- A turn is `turn` of Laws.
use Rattle.std.proofs.Common.{◌+◌, ◌*◌, sym, refl, ◌∙◌, get_or, arith, rules}
use borrow.Author.Rules.{set_long}
use Rattle.spec.specs.declared.Task.{Task}
use Rattle.spec.specs.Machine.{machine_of, task_of, idle, state_head, state_last_node, state_last_bucket, state_task}
use Rattle.pool.proofs.Laws.{length_mapped}
use Rattle.lines.proofs.Settling.{changes_below, moved_on, moved_off}
use Rattle.schedule_events.specs.EventLaws.{event_at}
use Rattle.schedule.proofs.Laws.{rest_start, stays_sound, turn, finished}
use Rattle.schedule.proofs.run_events.Goals as goal
use Rattle.schedule.proofs.run_events.Goals.{then-changes, else-changes}

pub loop-i-init : goal.loop-i-init
loop-i-init c =
    let a = c.args in
    record { still_sound = c.requires.2; eight = search (rules, length_mapped); left = rest_start a.events.now a.n 0 _ _ }

pub run_event-m-requires : goal.run_event-m-requires
unfolding task_of idle
run_event-m-requires c =
    let l = c.loop-i in
    let y = machine_of l.t l.ns l.bs in
    rw l.invariant.still_sound (c.known_sound-d.ensures y l.invariant.eight refl)

pub bounds-t-k-then-changes : goal.bounds-t-k-then-changes
bounds-t-k-then-changes c = changes_below _ _ (sym c.changes.ensures ∙ c.if-changes.true)

pub loop-i-preserved : goal.loop-i-preserved
unfolding state_head state_last_node state_last_bucket state_task
loop-i-preserved c =
    let a = c.args in
    let room = c.requires.1 in
    let l = c.loop-i in
    let m = c.run_event-m in
    let k = get_or a.events.now (4 * l.i + 1) 0 in
    elim c.if-changes.branch [
      | then-changes w ↦
          let reply = moved_on l.t k m.result _ _ m.ensures (sym c.changes.ensures ∙ w.if-changes.true) in
          rw w.t-is
          (record {
            still_sound = stays_sound _ (event_at a.events.now l.i) l.invariant.still_sound _ reply;
            eight = set_long Task l.t.task k 8 m.result.task l.invariant.eight;
            left = turn a.events.now a.n l.i c.loop-i-test.true (omega arith) l.invariant.left _ reply _ c.write_output.ensures;
          })
      | else-changes w ↦
          let reply = moved_off l.t k m.result _ _ m.ensures (sym c.changes.ensures ∙ w.if-changes.false) in
          rw w.t-is
          (record {
            still_sound = stays_sound _ (event_at a.events.now l.i) l.invariant.still_sound _ reply;
            eight = l.invariant.eight;
            left = turn a.events.now a.n l.i c.loop-i-test.true (omega arith) l.invariant.left _ reply _ c.write_output.ensures;
          })
    ]

pub returns : goal.returns
returns c = finished c.args.events.now c.args.n c.loop-i.i (omega arith) c.loop-i.invariant.left
