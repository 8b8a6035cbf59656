use Rattle.std.proofs.Common.{List, Bool, drop}
use Rattle.spec.specs.Lists.{concat_map}
use Rattle.spec.specs.Held.{task_buckets}
use Rattle.held_marks.specs.Marks.{Marks}
use Rattle.held.proofs.mark_own.Given as goal

-- what is marked so far, with the links of the tasks to come, are those of all tasks
abbrev pub invariant-loop-c : goal.invariant-loop-c
invariant-loop-c l =
    (q : List Bool) → Marks l.m q (concat_map task_buckets (drop l.c-index l.c-items)) → Marks l.initial.m q (concat_map task_buckets l.c-items)
