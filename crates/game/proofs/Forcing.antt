-- What rests on statements of specs/Forcing.antt that a must-fail edit makes false: theorems moved from there as they stood. Assumes nothing.
use Rattle.std.specs.Prelude.{ℕ, zero, suc, ◌≡◌, refl, ◌↔◌, [], ◌∷◌, Bool, true, false, ◌||◌}
use Rattle.std.proofs.Common.{sym, ap, ◌∙◌, inl, inr}
use Rattle.spec.specs.Machine.{Machine}
use Rattle.laws.specs.Tests.{bool?, tf}
use Rattle.game.specs.declared.LanesMove.{LanesMove}
use Rattle.game.specs.declared.Verdict.{Verdict}
use Rattle.game.specs.declared.OfficeMove.{OfficeMove}
use Rattle.game.specs.declared.OfficeMove.TheVariants.{OfficePass}
use Rattle.game.specs.Game.{after_lanes, ends_insert, after_office, wins_by, lanes_win, office_loses, winning_move, plies}
use Rattle.game.specs.FirstMove.{FirstWinning, first_task_0, first_task_1, first_pass, Decided, wins_first, none_wins, move_decided}
use Rattle.game.specs.Strategies.{round, LanesStrategy, OfficePlay, EndsWithin, LanesForce}
use Rattle.game.specs.TurnMoves.{rounds, plies_rounds, some_wins, all_lose, each_loses, wins_means, means_wins, loses_means, means_loses, pass_allowed}
use Rattle.game.specs.Forcing.{first_move, move_of, winning_strategy}

first_wins : (n : ℕ) (y : Machine) → lanes_win (suc (rounds n)) y ≡ true
    → wins_by (λ z. office_loses (rounds n) z) y (first_move n y) ≡ true
unfolding first_move lanes_win
first_wins n y e = go (winning_move (suc (rounds n)) y) (move_decided (rounds n) y)
  where
    wins : LanesMove → Bool
    wins m = wins_by (λ z. office_loses (rounds n) z) y m

    first : (m : LanesMove) → FirstWinning wins m → wins m ≡ true
    first m (first_task_0 p) = p
    first m (first_task_1 p q) = q
    first m (first_pass p q r) = r

    go : (v : Verdict) → Decided wins v → wins (move_of v) ≡ true
    go v (wins_first {m = m} f) = first m f
    go v (none_wins p q r) = absurd (tf e (nor p (nor q r)))
      where
        nor : {a b : Bool} → a ≡ false → b ≡ false → (a || b) ≡ false
        nor s t = rw (s, t)

no_turn_left : (z : Machine) → office_loses zero z ≡ false
unfolding office_loses
no_turn_left z = refl

strategy_wins : (n : ℕ) (y : Machine) → lanes_win (suc (rounds n)) y ≡ true → (π : OfficePlay)
    → EndsWithin (suc n) y (winning_strategy n y) π
unfolding winning_strategy rounds
strategy_wins zero y e π =
    let m = first_move zero y in
    let w = wins_means _ y m (first_wins zero y e) in
    (w.0, elim w.1 [ inl p ↦ inl p | inr p ↦ absurd (tf p (no_turn_left (after_lanes y m))) ])
strategy_wins (suc n) y e π =
    let m = first_move (suc n) y in
    let z = after_lanes y m in
    let w = wins_means _ y m (first_wins (suc n) y e) in (
      w.0,
      elim w.1 [
        | inl p ↦ inl p
        | inr p ↦ inr (λ q. strategy_wins n (after_office z (π 0)) (loses_means _ z (π 0) (each_loses _ z p (π 0)) q) (λ k. π (suc k)))
      ],
    )

-- the office's play that begins with o
abbrev play_from : OfficeMove → OfficePlay → OfficePlay
play_from o π zero = o
play_from o π (suc k) = π k

forced_win : (n : ℕ) (y : Machine) (σ : LanesStrategy) → ((π : OfficePlay) → EndsWithin (suc n) y σ π)
    → lanes_win (suc (rounds n)) y ≡ true
unfolding rounds
forced_win zero y σ h =
    let e = h (λ k. OfficePass) in
    some_wins zero y (σ []) (means_wins _ y (σ []) e.0
    (elim e.1 [ inl p ↦ inl p | inr g ↦ absurd (g (pass_allowed (after_lanes y (σ [])))) ]))
forced_win (suc n) y σ h =
    let z = after_lanes y (σ []) in
    let e = h (λ k. OfficePass) in
    some_wins (suc (suc (rounds n))) y (σ []) (means_wins _ y (σ []) e.0
    (elim (bool? (ends_insert y (σ []))) [
      | inl p ↦ inl p
      | inr p ↦ inr (all_lose (suc (rounds n)) z (λ o. means_loses _ z o (λ q.
          forced_win n (after_office z o) (λ h. σ (round (σ []) o ∷ h)) (λ π. elim (h (play_from o π)).1 [ inl s ↦ absurd (tf s p) | inr g ↦ g q ]))))
    ]))

-- ---- the theorem, for n turns of the lanes

-- the lanes win exactly if they have a strategy that ends the insert against every play of the office
pub lanes_win_iff_force : (n : ℕ) (y : Machine) → (lanes_win (plies n) y ≡ true) ↔ LanesForce n y
unfolding plies lanes_win
lanes_win_iff_force zero y = (λ e. absurd (tf e refl), λ s. absurd (s.1 (λ k. OfficePass)))
lanes_win_iff_force (suc n) y =
    let t = plies_rounds n in (
      λ e. (winning_strategy n y, strategy_wins n y (sym (ap (λ (m : ℕ). lanes_win m y) t) ∙ e)),
      λ s. ap (λ (m : ℕ). lanes_win m y) t ∙ forced_win n y s.0 s.1,
    )

-- the winning strategy is one
pub winning_strategy_wins : (n : ℕ) (y : Machine) → lanes_win (plies (suc n)) y ≡ true → (π : OfficePlay)
    → EndsWithin (suc n) y (winning_strategy n y) π
winning_strategy_wins n y e = strategy_wins n y (sym (ap (λ (m : ℕ). lanes_win m y) (plies_rounds n)) ∙ e)
