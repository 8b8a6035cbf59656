use Rattle.std.proofs.Common.{◌≡◌, ◌&&◌, drop}
use Rattle.spec.specs.Machine.{Machine}
use Rattle.spec.specs.Sound.{sound_tasks}
use Rattle.soundness.proofs.tasks_ok.Given as goal

-- what is left to test is `sound_tasks` of the records from task k on
abbrev pub invariant-loop-k : goal.invariant-loop-k
invariant-loop-k l = (y : Machine) → y.nodes ≡ l.ns → y.state ≡ l.fn.s → sound_tasks y 0 l.ts ≡ sound_tasks y l.k (drop l.k l.ts)

-- from T on those passed and those to come are joined
abbrev pub invariant-loop-k-2 : goal.invariant-loop-k-2
invariant-loop-k-2 l =
    (y : Machine) → y.nodes ≡ l.ns → y.state ≡ l.fn.s → (l.all && sound_tasks y l.k (drop l.k l.ts)) ≡ sound_tasks y 0 l.ts
