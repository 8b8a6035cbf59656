-- The lanes win within n of their turns exactly if they have a strategy that ends task 0's insert within n of their turns against
-- every play of the office: to play the first winning move in each turn. The other way round, against a strategy that always ends
-- it, each play of the office loses. Assumes nothing.
use Rattle.std.specs.Prelude.{ℕ, zero, suc, ◌≡◌, [], ◌∷◌}
use Rattle.std.proofs.Common.{sym, ap, ◌∙◌}
use Rattle.spec.specs.Machine.{Machine}
use Rattle.game.specs.declared.LanesMove.{LanesMove}
use Rattle.game.specs.declared.LanesMove.TheVariants.{LanesPass}
use Rattle.game.specs.declared.Verdict.{Verdict}
use Rattle.game.specs.declared.Verdict.TheVariants.{LanesWin, OfficeHolds, Refused}
use Rattle.game.specs.Game.{after_lanes, after_office, winning_move, plies}
use Rattle.game.specs.Strategies.{LanesStrategy}
use Rattle.game.specs.TurnMoves.{rounds, plies_rounds}

-- ---- a strategy of the lanes: the first winning move in each turn

abbrev pub move_of : Verdict → LanesMove
move_of (LanesWin m) = m
move_of OfficeHolds = LanesPass
move_of (Refused r) = LanesPass

unfoldable pub first_move : ℕ → Machine → LanesMove
first_move n y = move_of (winning_move (suc (rounds n)) y)

-- with n turns of the office to come
unfoldable pub winning_strategy : ℕ → Machine → LanesStrategy
winning_strategy zero y h = first_move zero y
winning_strategy (suc n) y [] = first_move (suc n) y
winning_strategy (suc n) y (r ∷ h) = winning_strategy n (after_office (after_lanes y (first_move (suc n) y)) r.office) h

-- the winning strategy begins with the move that is given
pub strategy_begins : (n : ℕ) (y : Machine) (m : LanesMove) → winning_move (plies (suc n)) y ≡ LanesWin m
    → winning_strategy n y [] ≡ m
unfolding winning_strategy first_move
strategy_begins zero y m e = ap move_of (sym (ap (λ (k : ℕ). winning_move k y) (plies_rounds zero)) ∙ e)
strategy_begins (suc n) y m e = ap move_of (sym (ap (λ (k : ℕ). winning_move k y) (plies_rounds (suc n))) ∙ e)
