-- The plies left are the measure of each turn: with each call from one to the other one ply fewer is left. In each loop the moves before this one
-- do not decide, the pools are those that the turn was given, and what is left to try decides.
use Rattle.std.proofs.Common.{◌-◌, ◌≡◌, ℕ, Bool, drop}
use Rattle.spec.specs.Machine.{Machine, machine_of}
use Rattle.game.specs.declared.LanesMove.{LanesMove}
use Rattle.game.specs.declared.OfficeMove.{OfficeMove}
use Rattle.game.specs.Game.{wins_by, loses_by, lanes_win, office_loses, winning_move}
use Rattle.play.specs.Moves.{lanes_moves, office_moves, said_of}
use Rattle.play.proofs.Tries.{first_in, each_in}
use Rattle.play.proofs.+lanes_turn_office_turn.Given as goal

abbrev pub decreases-lanes_turn : goal.decreases-lanes_turn
decreases-lanes_turn l = l.left

abbrev pub decreases-office_turn : goal.decreases-office_turn
decreases-office_turn l = l.left

-- whether a move wins, or loses, with one ply fewer left after it
abbrev pub wins : ℕ → Machine → LanesMove → Bool
wins left y m = wins_by (λ z. office_loses (left - 1) z) y m

abbrev pub loses : ℕ → Machine → OfficeMove → Bool
loses left y o = loses_by (λ z. lanes_win (left - 1) z) y o

abbrev pub invariant-lanes_turn-loop-m : goal.invariant-lanes_turn-loop-m
invariant-lanes_turn-loop-m l = record {
  nodes : l.ns ≡ l.fn.ns;
  buckets : l.bs ≡ l.fn.bs;
  rest :
      said_of (first_in (wins l.left (machine_of l.s l.fn.ns l.fn.bs)) (drop l.m-index lanes_moves))
      ≡ winning_move l.left (machine_of l.s l.fn.ns l.fn.bs);
}

abbrev pub invariant-office_turn-loop-o : goal.invariant-office_turn-loop-o
invariant-office_turn-loop-o l = record {
  nodes : l.ns ≡ l.fn.ns;
  buckets : l.bs ≡ l.fn.bs;
  rest : each_in (loses l.left (machine_of l.s l.fn.ns l.fn.bs)) (drop l.o-index office_moves) ≡ office_loses l.left (machine_of l.s l.fn.ns l.fn.bs);
}
