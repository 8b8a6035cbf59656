use Rattle.std.proofs.Common.{List, Bool}
use Rattle.spec.specs.Words.{places}
use Rattle.held_marks.specs.Marks.{Marks}
use Rattle.held.proofs.Laws.{places_from}
use Rattle.held.proofs.mark_places.Given as goal

-- what is marked so far, with the places from i on, is all 32
abbrev pub invariant-loop-i : goal.invariant-loop-i
invariant-loop-i l = (q : List Bool) → Marks l.m q (places_from l.ns l.k l.i) → Marks l.initial.m q (places l.ns l.k)
