-- Short examples for demand 3 and beside it, each of which a must-fail edit of `spec` is refused by; longer ones are in the crate `cases`. Assumes
-- nothing.
use Rattle.std.specs.Prelude.{ℕ, ◌≡◌, refl, [], ◌∷◌, Ok, Err}
use Rattle.std.proofs.Common.{arith}
use Rattle.spec.specs.declared.Refusal.TheVariants.{Spoilt}
use Rattle.spec.specs.declared.Answer.TheVariants.{No}
use Rattle.spec.specs.declared.Call.TheVariants.{Remove, Contains}
use Rattle.spec.specs.declared.Progress.TheVariants.{At}
use Rattle.spec.specs.Schedule.{starts, steps}
use Rattle.spec.specs.History.{Ended, set_call, note, tell, history_from, history}
use Rattle.spec.specs.Linearizable.{Timely, NoEight}
use Rattle.spec.specs.Rows.{counted}

-- a contains of 9 by task p, from event r to event n
abbrev pub looks : ℕ → ℕ → ℕ → Ended
looks p r n = record { task = p; call = Contains; tag = 9; answer = No; start = r; end = n }

-- the third ended before the first started; the second overlaps both
pub first_and_third : ¬ Timely (looks 0 6 20 ∷ looks 1 0 30 ∷ looks 2 1 5 ∷ [])
first_and_third t = let late = t.0.1.0 in omega arith

-- refusal 8 as the second and last output
pub eight_last : ¬ NoEight (Ok (At 32) ∷ Err Spoilt ∷ [])
eight_last n = n.1.0 refl

-- a remove that says no is told
pub remove_told :
    history (starts 0 Remove 5 ∷ steps 0 ∷ []) (Ok (At 32) ∷ counted No 3 0 ∷ [])
    ≡ record { task = 0; call = Remove; tag = 5; answer = No; start = 0; end = 1 } ∷ []
unfolding set_call note tell history_from history
remove_told = refl
