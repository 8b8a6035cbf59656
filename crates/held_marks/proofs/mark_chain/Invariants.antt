use Rattle.std.proofs.Common.{◌-◌, List, Bool}
use Rattle.spec.specs.Held.{chain}
use Rattle.held_marks.specs.Marks.{Marks}
use Rattle.held_marks.proofs.mark_chain.Given as goal

-- what is marked so far, with the chain from where it stands, is the whole chain
abbrev pub invariant-loop : goal.invariant-loop
invariant-loop l = (q : List Bool) → Marks l.m q (chain l.ns (l.h - l.counter) l.at) → Marks l.initial.m q (chain l.ns l.h l.from)
