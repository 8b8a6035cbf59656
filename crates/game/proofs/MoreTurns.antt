-- What rests on statements of specs/MoreTurns.antt that a must-fail edit makes false: theorems moved from there as they stood. Assumes nothing.
use Rattle.std.specs.Prelude.{ℕ, zero, suc, ◌≡◌, refl, ◌⊎◌, Bool, true}
use Rattle.std.proofs.Common.{inl, inr, arith}
use Rattle.spec.specs.Machine.{Machine}
use Rattle.laws.specs.Tests.{tf}
use Rattle.game.specs.declared.LanesMove.{LanesMove}
use Rattle.game.specs.declared.LanesMove.TheVariants.{StepTask0, StepTask1, LanesPass}
use Rattle.game.specs.declared.Verdict.TheVariants.{LanesWin}
use Rattle.game.specs.declared.OfficeMove.TheVariants.{OfficePass}
use Rattle.game.specs.Game.{after_lanes, ends_insert, after_office, office_loses, winning_move}
use Rattle.game.specs.FirstMove.{FirstWinning, first_pass}
use Rattle.game.proofs.FirstMove.{move_is_first}
use Rattle.game.specs.TurnMoves.{wins_then, one_wins, each_loses, wins_means, loses_means, pass_allowed}
use Rattle.game.specs.MoreTurns.{one_more, wins_more}

-- ---- a pass is never given

by_move : (v w : LanesMove → Bool) → ((m : LanesMove) → v m ≡ true → w m ≡ true)
    → (v LanesPass ≡ true → (v StepTask0 ≡ true) ⊎ (v StepTask1 ≡ true)) → (m : LanesMove) → v m ≡ true
    → (w StepTask0 ≡ true) ⊎ (w StepTask1 ≡ true)
by_move v w up h StepTask0 e = inl (up StepTask0 e)
by_move v w up h StepTask1 e = inr (up StepTask1 e)
by_move v w up h LanesPass e = elim (h e) [ inl p ↦ inl (up StepTask0 p) | inr p ↦ inr (up StepTask1 p) ]

-- If a pass wins, the office may pass too, and then some move wins with two plies fewer; so it wins now. By induction on the plies
-- that move is a step.
pass_wins : (n : ℕ) (y : Machine) → wins_then n y LanesPass ≡ true
    → (wins_then n y StepTask0 ≡ true) ⊎ (wins_then n y StepTask1 ≡ true)
unfolding office_loses ends_insert after_lanes after_office
pass_wins zero y e = elim (wins_means _ y LanesPass e).1 [ inl p ↦ absurd (tf p refl) | inr p ↦ absurd (tf p refl) ]
pass_wins (suc zero) y e =
    elim (wins_means _ y LanesPass e).1 [
      | inl p ↦ absurd (tf p refl)
      | inr p ↦ absurd (tf (loses_means _ y OfficePass (each_loses zero y p OfficePass) (pass_allowed y)) refl)
    ]
pass_wins (suc (suc n)) y e =
    let two : (z : Machine) → office_loses n z ≡ true → office_loses (suc (suc n)) z ≡ true =
    λ z p. (one_more (suc n)).1 z ((one_more n).1 z p) in
    let up : (m : LanesMove) → wins_then n y m ≡ true → wins_then (suc (suc n)) y m ≡ true =
    wins_more (λ z. office_loses n z) (λ z. office_loses (suc (suc n)) z) two y in
    elim (wins_means _ y LanesPass e).1 [
      | inl p ↦ absurd (tf p refl)
      | inr p ↦
          let w = one_wins n y (loses_means _ y OfficePass (each_loses (suc n) y p OfficePass) (pass_allowed y)) in
          by_move (wins_then n y) (wins_then (suc (suc n)) y) up (pass_wins n y) w.0 w.1
    ]

pub pass_never_given : (n : ℕ) (y : Machine) → ¬ (winning_move n y ≡ LanesWin LanesPass)
unfolding winning_move
pass_never_given zero y e = let z : ◌≡◌ {A = ℕ} 0 1 = cc in omega arith
pass_never_given (suc n) y e = go (move_is_first n y LanesPass e)
  where
    go : FirstWinning (wins_then n y) LanesPass → ⊥
    go (first_pass p q r) = elim (pass_wins n y r) [ inl s ↦ tf s p | inr s ↦ tf s q ]
