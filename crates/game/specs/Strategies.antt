-- What it is to force an insert through, or to hold it off: strategies of one side against every play of the other. Assumes nothing.
use Rattle.std.specs.Prelude.{ℕ, zero, suc, ◌≡◌, ◌⊎◌, List, [], ◌∷◌, true, false}
use Rattle.spec.specs.Machine.{Machine}
use Rattle.game.specs.declared.LanesMove.{LanesMove}
use Rattle.game.specs.declared.OfficeMove.{OfficeMove}
use Rattle.game.specs.Game.{lanes_may, after_lanes, ends_insert, office_may, after_office}

-- ---- strategies and plays

-- a move of the lanes and the office's answer
pub record Round : Type 0 where
  pub lanes : LanesMove
  pub office : OfficeMove

abbrev pub round : LanesMove → OfficeMove → Round
round m o = record { lanes = m; office = o }

-- a strategy of the lanes: their move, given the rounds that have been played, the first one first
abbrev pub LanesStrategy : Type 0
LanesStrategy = List Round → LanesMove

-- a strategy of the office: its answer to a move of the lanes, given the rounds before it
abbrev pub OfficeStrategy : Type 0
OfficeStrategy = List Round → LanesMove → OfficeMove

-- a play of one side: its move in each of its turns. Against a strategy every way to play is one, since the other side's moves follow
abbrev pub OfficePlay : Type 0
OfficePlay = ℕ → OfficeMove

abbrev pub LanesPlay : Type 0
LanesPlay = ℕ → LanesMove

-- ---- "The lanes win if task 0's insert ends within N of their turns"

-- from y on, with this strategy, against this play. Each move of the strategy is one that the lanes may make. A play with a move that
-- the office may not make is none: nothing is asked after it
abbrev pub EndsWithin : ℕ → Machine → LanesStrategy → OfficePlay → Type 0
EndsWithin zero y σ π = ⊥
EndsWithin (suc n) y σ π =
    (lanes_may y (σ []) ≡ true)
    × ((ends_insert y (σ []) ≡ true)
    ⊎ (office_may (after_lanes y (σ [])) (π 0) ≡ true
    → EndsWithin n (after_office (after_lanes y (σ [])) (π 0)) (λ h. σ (round (σ []) (π 0) ∷ h)) (λ k. π (suc k))))

-- the insert does not end within n turns of the lanes, from y on, with this strategy of the office, against this play of the lanes
abbrev pub HeldOff : ℕ → Machine → OfficeStrategy → LanesPlay → Type 0
HeldOff zero y τ ρ = Unit {0}
HeldOff (suc n) y τ ρ =
    lanes_may y (ρ 0) ≡ true
    → (ends_insert y (ρ 0) ≡ false)
    × ((office_may (after_lanes y (ρ 0)) (τ [] (ρ 0)) ≡ true)
    × HeldOff n (after_office (after_lanes y (ρ 0)) (τ [] (ρ 0))) (λ h. τ (round (ρ 0) (τ [] (ρ 0)) ∷ h)) (λ k. ρ (suc k)))

-- "the lanes can win against every play"; the office can hold the insert off
abbrev pub LanesForce : ℕ → Machine → Type 0
LanesForce n y = (σ : LanesStrategy) × ((π : OfficePlay) → EndsWithin n y σ π)

abbrev pub OfficeHoldsOff : ℕ → Machine → Type 0
OfficeHoldsOff n y = (τ : OfficeStrategy) × ((ρ : LanesPlay) → HeldOff n y τ ρ)
