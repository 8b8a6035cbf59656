use Rattle.std.proofs.Common.{List, Bool}
use Rattle.spec.specs.Lists.{concat_map}
use Rattle.spec.specs.Words.{places}
use Rattle.held_marks.specs.Marks.{Marks}
use Rattle.held.specs.Held.{marked_numbers}
use Rattle.held.proofs.Laws.{numbers_from}
use Rattle.held.proofs.mark_placed.Given as goal

-- the places of each marked node passed, with those of the marked nodes to come, are all
abbrev pub invariant-loop-k : goal.invariant-loop-k
invariant-loop-k l =
    (q : List Bool) → Marks l.m q (concat_map (places l.ns) (numbers_from l.nodes l.k))
    → Marks l.initial.m q (concat_map (places l.ns) (marked_numbers l.nodes))
