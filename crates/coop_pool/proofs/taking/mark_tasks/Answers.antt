use Rattle.std.proofs.Common.{rules, arith, ◌≡◌, length}
use Rattle.spec.specs.Lists.{concat_map}
use Rattle.pool.proofs.Laws.{length_mapped}
use Rattle.held_marks.proofs.Laws.{tasks_turn, tasks_last, finish}
use Rattle.coop_spec.specs.Held.{task_versions}
use Rattle.coop_pool.proofs.taking.mark_tasks.Goals as goal

pub loop-c-preserved : goal.loop-c-preserved
loop-c-preserved c =
    let ts = c.args.s.task in
    let long : length ts ≡ 8 = search (rules, length_mapped) in
    tasks_turn task_versions ts c.loop-c.c-index _ (concat_map task_versions ts) (omega arith) c.loop-c.invariant c.mark_task.ensures

pub returns : goal.returns
returns c =
    let ts = c.args.s.task in
    let long : length ts ≡ 8 = search (rules, length_mapped) in
    finish _ _ (tasks_last ts c.loop-c.c-index task_versions (omega arith)) c.loop-c.invariant
