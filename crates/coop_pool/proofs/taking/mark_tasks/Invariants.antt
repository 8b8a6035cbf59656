-- What the tasks from this one on add to the marks makes them those of all tasks.
use Rattle.std.proofs.Common.{List, Bool, drop}
use Rattle.spec.specs.Lists.{concat_map}
use Rattle.held_marks.specs.Marks.{Marks}
use Rattle.coop_spec.specs.Held.{task_versions}
use Rattle.coop_pool.proofs.taking.mark_tasks.Given as goal

abbrev pub invariant-loop-c : goal.invariant-loop-c
invariant-loop-c l =
    (q : List Bool) → Marks l.m q (concat_map task_versions (drop l.c-index l.c-items)) → Marks l.fn.m q (concat_map task_versions l.c-items)
