use Rattle.std.proofs.Common.{ℕ, ◌≡◌, ◌<◌, length, get_or}
use Rattle.coop_spec.specs.Machine.{never_invoked}
use Rattle.coop_state_words.specs.StateWords.{operation_at, operation_place}
use Rattle.coop_c_words.proofs.operations_of_words.Given as goal

abbrev pub invariant-loop-k : goal.invariant-loop-k
invariant-loop-k l = record { long : length l.all ≡ 64; below : (j : ℕ) → j < l.k → get_or l.all j never_invoked ≡ operation_at l.w (operation_place j) }
