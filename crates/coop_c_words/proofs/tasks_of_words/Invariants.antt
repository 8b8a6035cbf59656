use Rattle.std.proofs.Common.{ℕ, ◌≡◌, ◌<◌, length, get_or}
use Rattle.coop_spec.specs.Machine.{idle}
use Rattle.coop_state_words.specs.StateWords.{task_at, task_place}
use Rattle.coop_c_words.proofs.tasks_of_words.Given as goal

abbrev pub invariant-loop-k : goal.invariant-loop-k
invariant-loop-k l = record { long : length l.all ≡ 8; below : (j : ℕ) → j < l.k → get_or l.all j idle ≡ task_at l.w (task_place j) }
