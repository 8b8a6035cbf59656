-- More turns never hurt: a win within n turns of the lanes is a win within n + 1. So a pass is never the first winning move: the
-- office may pass too, and what wins then, with fewer turns left, wins now. Assumes nothing.
use Rattle.std.specs.Prelude.{ℕ, zero, suc, ◌≡◌, refl, Bool, true}
use Rattle.std.proofs.Common.{ap, ◌∙◌, inl, inr, arith}
use Rattle.spec.specs.Machine.{Machine}
use Rattle.laws.specs.Tests.{tf}
use Rattle.game.specs.declared.LanesMove.{LanesMove}
use Rattle.game.specs.declared.OfficeMove.{OfficeMove}
use Rattle.game.specs.Game.{after_lanes, after_office, wins_by, loses_by, lanes_win, office_loses, plies}
use Rattle.game.specs.TurnMoves.{some_wins, one_wins, all_lose, each_loses, wins_means, means_wins, loses_means, means_loses}

-- ---- one ply more

pub wins_more : (f g : Machine → Bool) → ((z : Machine) → f z ≡ true → g z ≡ true) → (y : Machine) (m : LanesMove)
    → wins_by f y m ≡ true → wins_by g y m ≡ true
wins_more f g h y m e =
    let w = wins_means f y m e in
    means_wins g y m w.0 (elim w.1 [ inl p ↦ inl p | inr p ↦ inr (h (after_lanes y m) p) ])

loses_more : (f g : Machine → Bool) → ((z : Machine) → f z ≡ true → g z ≡ true) → (y : Machine) (o : OfficeMove)
    → loses_by f y o ≡ true → loses_by g y o ≡ true
loses_more f g h y o e = means_loses g y o (λ q. h (after_office y o) (loses_means f y o e q))

-- of a turn of the lanes, and of the office
abbrev OneMore : ℕ → Type 0
OneMore n =
    ((y : Machine) → lanes_win n y ≡ true → lanes_win (suc n) y ≡ true)
    × ((y : Machine) → office_loses n y ≡ true → office_loses (suc n) y ≡ true)

pub one_more : (n : ℕ) → OneMore n
unfolding lanes_win
one_more zero = (λ y e. absurd (tf e refl), λ y e. absurd (tf e refl))
one_more (suc n) =
    let h = one_more n in
    let loses = wins_more (λ z. office_loses n z) (λ z. office_loses (suc n) z) h.1 in
    let wins = loses_more (λ z. lanes_win n z) (λ z. lanes_win (suc n) z) h.0 in (
      λ y e. (let w = one_wins n y e in some_wins (suc n) y w.0 (loses y w.0 w.1)),
      λ y e. all_lose (suc n) y (λ o. wins y o (each_loses n y e o)),
    )

-- a win within n turns is a win within n + 1
pub more_turns_never_hurt : (n : ℕ) (y : Machine) → lanes_win (plies n) y ≡ true → lanes_win (plies (suc n)) y ≡ true
unfolding plies lanes_win
more_turns_never_hurt zero y e = absurd (tf e refl)
more_turns_never_hurt (suc n) y e =
    let t = plies (suc n) in
    let more : plies (suc (suc n)) ≡ suc (suc t) = omega arith in
    ap (λ (m : ℕ). lanes_win m y) more ∙ (one_more (suc t)).0 y ((one_more t).0 y e)
