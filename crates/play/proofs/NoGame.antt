-- What is said where memory is not sound, where there is no game, and of a game. Assumes nothing.
use Prim.Native.Nat.{ℕ, ◌≤◌}
use mathlib.Core.Path.{◌≡◌}
use mathlib.Core.Bool.{true, false, not, ◌&&◌, ◌||◌}
use borrow.Author.Tests.{leb-true, not-false}
use lib.Dec.{ltb, leb}
use Rattle.spec.specs.Machine.{Machine}
use Rattle.spec.specs.Sound.{task_count, sound}
use Rattle.laws.specs.Tests.{and_left, and_right, or_none}
use Rattle.game.specs.declared.Verdict.TheVariants.{Refused}
use Rattle.game.specs.Game.{winning_move, plies, inserts, no_game, verdict}

module _ (n : ℕ) (y : Machine) where
  pub spoilt : sound y ≡ false → verdict n y ≡ Refused 8
  unfolding verdict
  spoilt e = rw e

  module _ (e : sound y ≡ true) where
    pub refused : no_game n y ≡ true → verdict n y ≡ Refused 16
    unfolding verdict
    refused g = rw (e, g)

    pub plays : no_game n y ≡ false → verdict n y ≡ winning_move (plies n) y
    unfolding verdict
    plays g = rw (e, g)

  -- N is in range where there is a game
  pub turns_within : no_game n y ≡ false → (1 ≤ n) × (n ≤ 6)
  unfolding no_game
  turns_within g =
      let w = not-false (leb 1 n && leb n 6) (or_none (not (leb 1 n && leb n 6)) (ltb (task_count y) 3 || not (inserts y)) g).0 in
      (leb-true 1 n (and_left (leb 1 n) (leb n 6) w), leb-true n 6 (and_right (leb 1 n) (leb n 6) w))
