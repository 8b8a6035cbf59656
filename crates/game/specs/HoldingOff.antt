-- If the lanes do not win within n of their turns, the office has a strategy that keeps task 0's insert from ending in them,
-- whatever the lanes play: to make a move after which they do not win. Assumes nothing.
use Rattle.std.specs.Prelude.{ℕ, zero, suc, ◌≡◌, refl, [], ◌∷◌, Bool, true, false, ◌&&◌, if◌then◌else◌}
use Rattle.std.proofs.Common.{sym, ap, ◌∙◌}
use Rattle.spec.specs.Machine.{Machine}
use Rattle.laws.specs.Tests.{tf}
use Rattle.game.specs.declared.OfficeMove.{OfficeMove}
use Rattle.game.specs.declared.OfficeMove.TheVariants.{StepTask2, StartGrow, StartShrink, OfficePass}
use Rattle.game.specs.Game.{after_lanes, after_office, loses_by, lanes_win, office_loses, plies}
use Rattle.game.specs.Strategies.{OfficeStrategy, LanesPlay, HeldOff, OfficeHoldsOff}
use Rattle.game.specs.TurnMoves.{rounds, plies_rounds, none_win, fails_means, holds_means, pass_allowed}

-- the office's answer
unfoldable pub reply_to : ℕ → Machine → OfficeMove
reply_to zero z = OfficePass
reply_to (suc n) z =
    if loses_by (λ x. lanes_win (suc (rounds n)) x) z OfficePass
    then (if loses_by (λ x. lanes_win (suc (rounds n)) x) z StepTask2
    then (if loses_by (λ x. lanes_win (suc (rounds n)) x) z StartGrow then StartShrink else StartGrow)
    else StepTask2)
    else OfficePass

-- with n turns of the lanes to come after the one that it answers
unfoldable pub holding_strategy : ℕ → Machine → OfficeStrategy
holding_strategy zero y h m = OfficePass
holding_strategy (suc n) y [] m = reply_to (suc n) (after_lanes y m)
holding_strategy (suc n) y (r ∷ h) m = holding_strategy n (after_office (after_lanes y r.lanes) (reply_to (suc n) (after_lanes y r.lanes))) h m

reply_holds : (n : ℕ) (z : Machine) → office_loses (rounds (suc n)) z ≡ false
    → loses_by (λ x. lanes_win (suc (rounds n)) x) z (reply_to (suc n) z) ≡ false
unfolding rounds reply_to office_loses
reply_holds n z e = go (loses OfficePass) (loses StepTask2) (loses StartGrow) (loses StartShrink) refl refl refl refl e
  where
    loses : OfficeMove → Bool
    loses o = loses_by (λ x. lanes_win (suc (rounds n)) x) z o

    go : (a b c d : Bool) → loses OfficePass ≡ a → loses StepTask2 ≡ b → loses StartGrow ≡ c → loses StartShrink ≡ d
        → (a && (b && (c && d))) ≡ false
        → loses (if a then (if b then (if c then StartShrink else StartGrow) else StepTask2) else OfficePass) ≡ false
    go false b c d p q r s f = p
    go true false c d p q r s f = q
    go true true false d p q r s f = r
    go true true true false p q r s f = s
    go true true true true p q r s f = absurd (tf refl f)

strategy_holds : (n : ℕ) (y : Machine) → lanes_win (suc (rounds n)) y ≡ false → (ρ : LanesPlay)
    → HeldOff (suc n) y (holding_strategy n y) ρ
unfolding holding_strategy rounds
strategy_holds zero y e ρ = λ may.
    let f = fails_means _ y (ρ 0) (none_win _ y e (ρ 0)) may in
    (f.0, (pass_allowed (after_lanes y (ρ 0)), tt))
strategy_holds (suc n) y e ρ = λ may.
    let f = fails_means _ y (ρ 0) (none_win _ y e (ρ 0)) may in
    let z = after_lanes y (ρ 0) in
    let o = reply_to (suc n) z in
    let g = holds_means _ z o (reply_holds n z f.1) in
    (f.0, (g.0, strategy_holds n (after_office z o) g.1 (λ k. ρ (suc k))))

-- if they do not, the office has a strategy that keeps the insert from ending, whatever the lanes play
pub office_holds_off : (n : ℕ) (y : Machine) → lanes_win (plies n) y ≡ false → OfficeHoldsOff n y
office_holds_off zero y e = (λ h m. OfficePass, λ ρ. tt)
office_holds_off (suc n) y e =
    (holding_strategy n y, strategy_holds n y (sym (ap (λ (m : ℕ). lanes_win m y) (plies_rounds n)) ∙ e))
