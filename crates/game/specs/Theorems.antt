-- What the verdict means: each refusal exactly under its condition; the lanes win exactly if they can force the end of the insert;
-- the move given begins such a strategy; and where they do not win, the office can hold the insert off. Assumes nothing.
use Rattle.std.specs.Prelude.{ℕ, ◌<◌, true, false}
use Rattle.std.proofs.Math.Path.{◌≡◌}
use Rattle.std.proofs.Math.Bool.{not}
use Rattle.std.proofs.lemmas.Bool.{not-true, not-false}
use Rattle.spec.specs.declared.Call.TheVariants.{Insert}
use Rattle.spec.specs.Numbers.{call_number}
use Rattle.spec.specs.Machine.{Machine, task_of}
use Rattle.spec.specs.Sound.{task_count, sound}
use Rattle.laws.specs.Tests.{choose}
use Rattle.corollaries.specs.Tables.{Within}
use Rattle.game.specs.declared.Verdict.{Verdict}
use Rattle.game.specs.declared.Verdict.TheVariants.{Refused}
use Rattle.game.specs.Game.{winning_move, plies, no_game, verdict}

-- the verdict by its outcome
pub data VerdictOf (n : ℕ) (y : Machine) : Verdict → Type 0 where
  spoilt : sound y ≡ false → VerdictOf n y (Refused 8)
  none_here : sound y ≡ true → no_game n y ≡ true → VerdictOf n y (Refused 16)
  played : sound y ≡ true → no_game n y ≡ false → VerdictOf n y (winning_move (plies n) y)

pub verdict_outcome : (n : ℕ) (y : Machine) → VerdictOf n y (verdict n y)
unfolding verdict
verdict_outcome n y =
    choose (VerdictOf n y) (not (sound y)) _ _ (λ e. spoilt (not-true (sound y) e)) (λ e.
    choose (VerdictOf n y) (no_game n y) _ _ (λ g. none_here (not-false (sound y) e) g) (λ g. played (not-false (sound y) e) g))

module _ (n : ℕ) (y : Machine) where
  -- "task 0 .. running an insert"
  abbrev pub Inserts : Type 0
  Inserts = ((task_of y 0).running ≡ true) × ((task_of y 0).call ≡ call_number Insert)

  -- "16, N out of range, under three tasks, or task 0 not running an insert"
  pub data NoGame : Type 0 where
    out_of_range : ¬ Within 1 6 n → NoGame
    under_three_tasks : task_count y < 3 → NoGame
    no_insert : ¬ Inserts → NoGame
