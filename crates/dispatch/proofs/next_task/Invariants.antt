use Rattle.std.proofs.Common.{◌≡◌, ◌+◌, ◌-◌, List, ℕ, map}
use Rattle.spec.specs.Lists.{range}
use Rattle.spec.specs.Held.{first_free, cyclic_order}
use Rattle.held_marks.proofs.Round.{turn as around}
use Rattle.dispatch.proofs.TurnLaws.{IdleLinks}
use Rattle.dispatch.proofs.next_task.Given as goal

-- every task passed is idle, so the first running one is the first of the rest
abbrev pub invariant-loop-j : goal.invariant-loop-j
invariant-loop-j l =
    (ls : List ℕ) → IdleLinks l.fn.s.task l.t ls
    → first_free ls (cyclic_order l.t l.last) ≡ first_free ls (map (around ls l.t l.last) (range l.j (l.t + 1 - l.j)))
