-- The move given is the first winning one in the order task 0, task 1, a pass, and one is given exactly if the lanes win.
-- Assumes nothing.
use Rattle.std.specs.Prelude.{ℕ, zero, suc, ◌≡◌, refl, Bool, true, false, ◌||◌, if◌then◌else◌}
use Rattle.spec.specs.Machine.{Machine}
use Rattle.game.specs.declared.LanesMove.{LanesMove}
use Rattle.game.specs.declared.LanesMove.TheVariants.{StepTask0, StepTask1, LanesPass}
use Rattle.game.specs.declared.Verdict.{Verdict}
use Rattle.game.specs.declared.Verdict.TheVariants.{LanesWin, OfficeHolds}
use Rattle.game.specs.Game.{wins_by, lanes_win, office_loses, winning_move, is_win}

-- "a winning first move, task 0 before task 1 before a pass": with this move the lanes win, and with none before it
pub data FirstWinning (wins : LanesMove → Bool) : LanesMove → Type 0 where
  first_task_0 : wins StepTask0 ≡ true → FirstWinning wins StepTask0
  first_task_1 : wins StepTask0 ≡ false → wins StepTask1 ≡ true → FirstWinning wins StepTask1
  first_pass : wins StepTask0 ≡ false → wins StepTask1 ≡ false → wins LanesPass ≡ true → FirstWinning wins LanesPass

-- a verdict on a turn of the lanes: a first winning move, or that no move wins
pub data Decided (wins : LanesMove → Bool) : Verdict → Type 0 where
  wins_first : {m : LanesMove} → FirstWinning wins m → Decided wins (LanesWin m)
  none_wins : wins StepTask0 ≡ false → wins StepTask1 ≡ false → wins LanesPass ≡ false → Decided wins OfficeHolds

pub move_decided : (n : ℕ) (y : Machine) → Decided (λ m. wins_by (λ z. office_loses n z) y m) (winning_move (suc n) y)
unfolding winning_move
move_decided n y = go (wins StepTask0) (wins StepTask1) (wins LanesPass) refl refl refl
  where
    wins : LanesMove → Bool
    wins m = wins_by (λ z. office_loses n z) y m

    go : (a b c : Bool) → wins StepTask0 ≡ a → wins StepTask1 ≡ b → wins LanesPass ≡ c
        → Decided wins (if a then LanesWin StepTask0 else if b then LanesWin StepTask1 else if c then LanesWin LanesPass else OfficeHolds)
    go true b c p q r = wins_first (first_task_0 p)
    go false true c p q r = wins_first (first_task_1 p q)
    go false false true p q r = wins_first (first_pass p q r)
    go false false false p q r = none_wins p q r

-- a move is given exactly if the lanes win
pub win_is_move : (n : ℕ) (y : Machine) → is_win (winning_move n y) ≡ lanes_win n y
unfolding winning_move lanes_win is_win
win_is_move zero y = refl
win_is_move (suc n) y = go (wins StepTask0) (wins StepTask1) (wins LanesPass)
  where
    wins : LanesMove → Bool
    wins m = wins_by (λ z. office_loses n z) y m

    go : (a b c : Bool)
        → is_win (if a then LanesWin StepTask0 else if b then LanesWin StepTask1 else if c then LanesWin LanesPass else OfficeHolds) ≡ (a || (b || c))
    go true b c = refl
    go false true c = refl
    go false false true = refl
    go false false false = refl
