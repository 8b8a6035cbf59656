use Rattle.std.proofs.Common.{drop, arith}
use Rattle.spec.specs.Lists.{concat_map}
use Rattle.spec.specs.Held.{task_buckets}
use Rattle.held_marks.proofs.Laws.{tasks_turn, tasks_last, finish}
use Rattle.held.proofs.mark_own.Goals as goal

pub loop-c-init : goal.loop-c-init
loop-c-init c = λ q r. r

pub loop-c-preserved : goal.loop-c-preserved
loop-c-preserved c =
    let ts = c.args.s.task in
    tasks_turn task_buckets ts c.loop-c.c-index _ (concat_map task_buckets ts) (omega arith) c.loop-c.invariant c.mark_task_buckets.ensures

pub returns : goal.returns
returns c =
    let ts = c.args.s.task in
    let k = c.loop-c.c-index in
    finish (concat_map task_buckets (drop k ts)) (concat_map task_buckets ts) (tasks_last ts k task_buckets (omega arith)) c.loop-c.invariant
