-- What is left to test is `sound_tasks` of the records from task k on.
use Rattle.std.proofs.Common.{◌≡◌, ℕ, List, drop}
use Rattle.coop_spec.specs.Machine.{machine_of}
use Rattle.coop_spec.specs.Sound.{sound_tasks}
use Rattle.coop_sound.specs.Kinds.{Kinds}
use Rattle.coop_sound.proofs.tasks_ok.Given as goal

abbrev pub invariant-loop-k : goal.invariant-loop-k
invariant-loop-k l =
    (vs : List ℕ) → Kinds (machine_of l.fn.s vs) l.kinds
    → sound_tasks (machine_of l.fn.s vs) 0 l.c-items ≡ sound_tasks (machine_of l.fn.s vs) l.k (drop l.k l.c-items)
