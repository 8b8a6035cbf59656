use Rattle.std.proofs.Common.{ℕ, ◌≡◌, ◌<◌, ◌+◌, ◌*◌, length, get_or}
use Rattle.spec.specs.Machine.{idle}
use Rattle.state_words.specs.StateWords.{task_at}
use Rattle.yard_words.proofs.tasks_of_words.Given as goal

abbrev pub invariant-loop-k : goal.invariant-loop-k
invariant-loop-k l = record { long : length l.c-items ≡ 8; below : (j : ℕ) → j < l.k → get_or l.c-items j idle ≡ task_at l.w (9 + 13 * j) }
