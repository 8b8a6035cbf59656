use Rattle.std.proofs.Common.{◌≡◌, ◌+◌, ◌-◌, List, ℕ, map}
use Rattle.spec.specs.Lists.{range}
use Rattle.spec.specs.Held.{first_free, cyclic_order}
use Rattle.held_marks.specs.Marks.{Exactly}
use Rattle.held_marks.proofs.Round.{turn}
use Rattle.held_marks.proofs.first_unmarked.Given as goal

-- every link passed is marked, so the first free one is the first free of the rest
abbrev pub invariant-loop-j : goal.invariant-loop-j
invariant-loop-j l =
    (ls : List ℕ) → Exactly l.m ls → first_free ls (cyclic_order l.n l.last) ≡ first_free ls (map (turn ls l.n l.last) (range l.j (l.n + 1 - l.j)))
