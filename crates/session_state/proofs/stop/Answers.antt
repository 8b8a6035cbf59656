-- The refusal's line is printed, and the session has stopped.
use Rattle.std.proofs.Common.{refl, rules}
use Rattle.session_state.specs.Handling.{stopped}
use Rattle.session_state.proofs.stop.Goals as goal

pub returns : goal.returns
unfolding stopped
returns c = record { next = refl; wrote = search rules }
