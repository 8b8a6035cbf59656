-- What rests on statements of specs/Theorems.antt that a must-fail edit makes false: theorems moved from there as they stood. Assumes nothing.
use Rattle.std.specs.Prelude.{ℕ, zero, suc, refl, ◌↔◌, ◌⊎◌, [], true, false, ◌&&◌, ◌||◌, eqb, leb, ltb}
use Rattle.std.proofs.Math.Path.{◌≡◌, ap}
use Rattle.std.proofs.Common.{sym, ◌∙◌, inl, inr, arith, eqb-true, eq-eqb, le-leb, ltb-true, lt-ltb}
use Rattle.std.proofs.Math.Bool.{Bool, not}
use Rattle.std.proofs.lemmas.Bool.{not-true}
use Rattle.spec.specs.declared.Call.TheVariants.{Insert}
use Rattle.spec.specs.Numbers.{call_number}
use Rattle.spec.specs.Machine.{Machine, task_of}
use Rattle.spec.specs.Sound.{within, task_count, sound}
use Rattle.laws.specs.Tests.{tf, and_i, and_left, and_right, or_e, or_l, or_r}
use Rattle.laws.specs.SoundFacts.{SoundFacts}
use Rattle.laws.specs.Soundness.{within_facts, sound_facts, facts_sound}
use Rattle.corollaries.specs.Tables.{Within}
use Rattle.game.specs.declared.LanesMove.{LanesMove}
use Rattle.game.specs.declared.LanesMove.TheVariants.{LanesPass}
use Rattle.game.specs.declared.Verdict.{Verdict}
use Rattle.game.specs.declared.Verdict.TheVariants.{LanesWin, OfficeHolds, Refused}
use Rattle.game.specs.Game.{lanes_win, winning_move, plies, inserts, no_game, verdict, is_win}
use Rattle.game.specs.FirstMove.{Decided, wins_first, none_wins, move_decided, win_is_move}
use Rattle.game.specs.Strategies.{LanesStrategy, OfficePlay, EndsWithin, LanesForce, OfficeHoldsOff}
use Rattle.game.specs.Forcing.{winning_strategy, strategy_begins}
use Rattle.game.proofs.Forcing.{winning_strategy_wins, lanes_win_iff_force}
use Rattle.game.specs.HoldingOff.{office_holds_off}
use Rattle.game.proofs.MoreTurns.{pass_never_given}
use Rattle.game.specs.Theorems.{Inserts, NoGame, VerdictOf, verdict_outcome, no_insert, none_here, out_of_range, played, spoilt}
use Rattle.game.specs.Theorems.{under_three_tasks}

-- a turn of the lanes gives no refusal
pub never_refused : (n : ℕ) (y : Machine) (r : ℕ) → ¬ (winning_move n y ≡ Refused r)
unfolding winning_move
never_refused zero y r e = let z : ◌≡◌ {A = ℕ} 0 1 = cc in omega arith
never_refused (suc n) y r e = go (winning_move (suc n) y) (move_decided n y) e
  where
    go : (v : Verdict) {w : LanesMove → _} → Decided w v → v ≡ Refused r → ⊥
    go v (wins_first f) p = let z : ◌≡◌ {A = ℕ} 0 1 = cc in omega arith
    go v (none_wins a b c) p = let z : ◌≡◌ {A = ℕ} 0 1 = cc in omega arith

-- a test that fails, from what its passing means
fails : {P : Type 0} (b : Bool) → (b ≡ true → P) → ¬ P → b ≡ false
fails true f d = absurd (d (f refl))
fails false f d = refl

module _ (n : ℕ) (y : Machine) where
  plays_as : sound y ≡ true → no_game n y ≡ false → verdict n y ≡ winning_move (plies n) y
  unfolding verdict
  plays_as e g = rw (e, g)

  no_game_iff : (no_game n y ≡ true) ↔ (NoGame n y)
  unfolding no_game inserts
  no_game_iff = (λ e. to (or_e range (few || idle) e), from)
    where
      range : Bool
      range = not (within 1 6 n)

      few : Bool
      few = ltb (task_count y) 3

      idle : Bool
      idle = not ((task_of y 0).running && eqb (task_of y 0).call (call_number Insert))

      in_range : Within 1 6 n → within 1 6 n ≡ true
      in_range w = and_i (leb 1 n) (leb n 6) (le-leb 1 n w.0) (le-leb n 6 w.1)

      inserting : (Inserts n y) → ((task_of y 0).running && eqb (task_of y 0).call (call_number Insert)) ≡ true
      inserting i = and_i (task_of y 0).running (eqb (task_of y 0).call (call_number Insert)) i.0 (eq-eqb _ _ i.1)

      few_or_idle : (few ≡ true) ⊎ (idle ≡ true) → NoGame n y
      few_or_idle (inl f) = under_three_tasks (ltb-true _ _ f)
      few_or_idle (inr i) = no_insert (λ h. tf (inserting h) (not-true _ i))

      to : (range ≡ true) ⊎ ((few || idle) ≡ true) → NoGame n y
      to (inl r) = out_of_range (λ w. tf (in_range w) (not-true _ r))
      to (inr f) = few_or_idle (or_e few idle f)

      from : (NoGame n y) → (range || (few || idle)) ≡ true
      from (out_of_range d) = or_l range (few || idle) (ap not (fails (within 1 6 n) (within_facts 1 6 n) d))
      from (under_three_tasks h) = or_r range (few || idle) (or_l few idle (lt-ltb _ _ h))
      from (no_insert d) = or_r range (few || idle) (or_r few idle (ap not (fails ((task_of y 0).running && eqb (task_of y 0).call (call_number Insert))
          (λ e. (and_left (task_of y 0).running _ e, eqb-true _ _ (and_right (task_of y 0).running _ e))) d)))

  -- "For a sound state", "Refused: 16, .. after 8": 8 of memory that is not sound
  pub refused_8_iff : (verdict n y ≡ Refused 8) ↔ (¬ SoundFacts y)
  unfolding verdict
  refused_8_iff = (λ e. to (verdict_outcome n y) e, λ d. rw (fails (sound y) (sound_facts y) d))
    where
      to : {v : Verdict} → VerdictOf n y v → v ≡ Refused 8 → ¬ SoundFacts y
      to (spoilt p) e = λ f. tf (facts_sound y f) p
      to (none_here p g) e = let z : ◌≡◌ {A = ℕ} 16 8 = cc in absurd (omega arith)
      to (played p g) e = absurd (never_refused (plies n) y 8 e)

  pub refused_16_iff : (verdict n y ≡ Refused 16) ↔ (SoundFacts y × (NoGame n y))
  unfolding verdict
  refused_16_iff = (λ e. to (verdict_outcome n y) e, λ p. rw (facts_sound y p.0, no_game_iff.1 p.1))
    where
      to : {v : Verdict} → VerdictOf n y v → v ≡ Refused 16 → SoundFacts y × (NoGame n y)
      to (spoilt p) e = let z : ◌≡◌ {A = ℕ} 8 16 = cc in absurd (omega arith)
      to (none_here p g) e = (sound_facts y p, no_game_iff.0 g)
      to (played p g) e = absurd (never_refused (plies n) y 16 e)

  -- "say whether the lanes can win against every play": yes exactly if they can force the end of the insert
  pub win_iff_force : sound y ≡ true → no_game n y ≡ false → (is_win (verdict n y) ≡ true) ↔ LanesForce n y
  win_iff_force e g =
      let same = ap is_win (plays_as e g) ∙ win_is_move (plies n) y in
      let f = lanes_win_iff_force n y in
      (λ w. f.0 (sym same ∙ w), λ s. same ∙ f.1 s)

  -- otherwise the office can hold it off
  pub otherwise_held_off : sound y ≡ true → no_game n y ≡ false → verdict n y ≡ OfficeHolds → OfficeHoldsOff n y
  unfolding is_win
  otherwise_held_off e g v = office_holds_off n y (sym (win_is_move (plies n) y) ∙ ap is_win (sym (plays_as e g) ∙ v))

-- "and give a winning first move": the move given begins a strategy that forces the end
pub move_begins_strategy : (n : ℕ) (y : Machine) (m : LanesMove) → verdict n y ≡ LanesWin m
    → (σ : LanesStrategy) × ((σ [] ≡ m) × ((π : OfficePlay) → EndsWithin n y σ π))
unfolding winning_move plies is_win
move_begins_strategy n y m e = go n (verdict n y) (verdict_outcome n y) e
  where
    no_move : ¬ (winning_move (plies 0) y ≡ LanesWin m)
    no_move q = let z : ◌≡◌ {A = ℕ} 0 1 = cc in omega arith

    wins : (t : ℕ) → winning_move t y ≡ LanesWin m → lanes_win t y ≡ true
    wins t q = sym (win_is_move t y) ∙ ap is_win q

    go : (k : ℕ) (v : Verdict) → VerdictOf k y v → v ≡ LanesWin m
        → (σ : LanesStrategy) × ((σ [] ≡ m) × ((π : OfficePlay) → EndsWithin k y σ π))
    go k v (spoilt p) q = let z : ◌≡◌ {A = ℕ} 0 1 = cc in absurd (omega arith)
    go k v (none_here p g) q = let z : ◌≡◌ {A = ℕ} 0 1 = cc in absurd (omega arith)
    go zero v (played p g) q = absurd (no_move q)
    go (suc k) v (played p g) q = (winning_strategy k y, (strategy_begins k y m q, winning_strategy_wins k y (wins (plies (suc k)) q)))

-- a pass is never the first winning move
pub never_a_pass : (n : ℕ) (y : Machine) → ¬ (verdict n y ≡ LanesWin LanesPass)
never_a_pass n y e = go (verdict n y) (verdict_outcome n y) e
  where
    go : (v : Verdict) → VerdictOf n y v → v ≡ LanesWin LanesPass → ⊥
    go v (spoilt p) q = let z : ◌≡◌ {A = ℕ} 0 1 = cc in omega arith
    go v (none_here p g) q = let z : ◌≡◌ {A = ℕ} 0 1 = cc in omega arith
    go v (played p g) q = pass_never_given (plies n) y q
