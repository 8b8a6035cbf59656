use Rattle.held_marks.proofs.Laws.{same, both, buckets_of_running, buckets_of_idle}
use Rattle.held_marks.proofs.mark_task_buckets.Goals as goal

pub returns-then-c : goal.returns-then-c
returns-then-c c =
    rw (buckets_of_running c.args.c c.if-c.true)
    (both c.mark.ensures (both c.mark-then-c.ensures (both c.mark-then-c-2.ensures c.mark-then-c-3.ensures)))

pub returns-else-c : goal.returns-else-c
returns-else-c c = rw (buckets_of_idle c.args.c c.if-c.false) (same _)
