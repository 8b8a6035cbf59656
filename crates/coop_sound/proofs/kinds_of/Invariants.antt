-- The kinds of the operations before number n are in their places.
use Rattle.std.proofs.Common.{◌≡◌, ℕ, ◌<◌, length, get_or}
use Rattle.coop_spec.specs.Machine.{never_invoked}
use Rattle.coop_sound.proofs.kinds_of.Given as goal

abbrev pub invariant-loop-n : goal.invariant-loop-n
invariant-loop-n l =
    record { long : length l.kinds ≡ 64; same : (j : ℕ) → j < l.n → get_or l.kinds j 0 ≡ (get_or l.op-items j never_invoked).kind }
