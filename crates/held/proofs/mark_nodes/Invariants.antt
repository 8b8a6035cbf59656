use Rattle.std.proofs.Common.{List, Bool, drop}
use Rattle.spec.specs.Lists.{concat_map}
use Rattle.held_marks.specs.Marks.{Marks}
use Rattle.held.proofs.Laws.{of_task}
use Rattle.held.proofs.mark_nodes.Given as goal

-- what is marked since the head's chain, with the chains of the tasks to come, are those of all tasks
abbrev pub invariant-loop-c : goal.invariant-loop-c
invariant-loop-c l =
    (q : List Bool) → Marks l.m q (concat_map (of_task l.ns l.h) (drop l.c-index l.c-items)) → Marks l.initial.m q (concat_map (of_task l.ns l.h) l.c-items)
