-- What rests on statements of specs/FirstMove.antt that a must-fail edit makes false: theorems moved from there as they stood. Assumes nothing.
use Rattle.std.specs.Prelude.{ℕ, suc, ◌≡◌}
use Rattle.std.proofs.Common.{arith}
use Rattle.spec.specs.Machine.{Machine}
use Rattle.game.specs.declared.LanesMove.{LanesMove}
use Rattle.game.specs.declared.Verdict.{Verdict}
use Rattle.game.specs.declared.Verdict.TheVariants.{LanesWin}
use Rattle.game.specs.Game.{wins_by, office_loses, winning_move}
use Rattle.game.specs.FirstMove.{Decided, FirstWinning, move_decided, none_wins, wins_first}

-- the move given is the first winning one
pub move_is_first : (n : ℕ) (y : Machine) (m : LanesMove) → winning_move (suc n) y ≡ LanesWin m
    → FirstWinning (λ o. wins_by (λ z. office_loses n z) y o) m
move_is_first n y m e = go (winning_move (suc n) y) (move_decided n y) e
  where
    go : (v : Verdict) → Decided (λ o. wins_by (λ z. office_loses n z) y o) v → v ≡ LanesWin m
        → FirstWinning (λ o. wins_by (λ z. office_loses n z) y o) m
    go v (wins_first {m = k} f) p = let q : k ≡ m = cc in rw q at f
    go v (none_wins a b c) p = let z : ◌≡◌ {A = ℕ} 0 1 = cc in absurd (omega arith)
