-- A turn of either side by its moves: what it means that a move wins, loses or holds. Assumes nothing.
use Rattle.std.specs.Prelude.{ℕ, zero, suc, ◌*◌, ◌≡◌, ◌⊎◌, Bool, not, ◌&&◌, ◌||◌}
use Rattle.std.proofs.Math.Path.{refl}
use Rattle.std.proofs.Common.{inl, inr, arith}
use Rattle.std.proofs.Math.Bool.{true, false}
use Rattle.spec.specs.Machine.{Machine}
use Rattle.laws.specs.Tests.{tf, and_left, and_right, and_i, and_none, or_e, or_l, or_r, or_none}
use Rattle.game.specs.declared.LanesMove.{LanesMove}
use Rattle.game.specs.declared.LanesMove.TheVariants.{StepTask0, StepTask1, LanesPass}
use Rattle.game.specs.declared.OfficeMove.{OfficeMove}
use Rattle.game.specs.declared.OfficeMove.TheVariants.{StepTask2, StartGrow, StartShrink, OfficePass}
use Rattle.game.specs.Game.{lanes_may, after_lanes, ends_insert, office_may, after_office}
use Rattle.game.specs.Game.{wins_by, loses_by, lanes_win, office_loses, plies}

-- ---- the plies after the lanes' first turn: n of the office and n of the lanes

unfoldable pub rounds : ℕ → ℕ
rounds zero = zero
rounds (suc n) = suc (suc (rounds n))

pub rounds_twice : (n : ℕ) → rounds n ≡ 2 * n
unfolding rounds
rounds_twice zero = refl
rounds_twice (suc n) = let e = rounds_twice n in omega arith

pub plies_rounds : (n : ℕ) → plies (suc n) ≡ suc (rounds n)
unfolding plies
plies_rounds n = let e = rounds_twice n in omega arith

-- ---- a turn of the lanes, and of the office, by their moves

module _ (w : LanesMove → Bool) where
  pub some_of : (m : LanesMove) → w m ≡ true → (w StepTask0 || (w StepTask1 || w LanesPass)) ≡ true
  some_of StepTask0 e = or_l (w StepTask0) (w StepTask1 || w LanesPass) e
  some_of StepTask1 e = or_r (w StepTask0) (w StepTask1 || w LanesPass) (or_l (w StepTask1) (w LanesPass) e)
  some_of LanesPass e = or_r (w StepTask0) (w StepTask1 || w LanesPass) (or_r (w StepTask1) (w LanesPass) e)

  pub none_of : (w StepTask0 || (w StepTask1 || w LanesPass)) ≡ false → (m : LanesMove) → w m ≡ false
  none_of e StepTask0 = (or_none (w StepTask0) (w StepTask1 || w LanesPass) e).0
  none_of e StepTask1 = (or_none (w StepTask1) (w LanesPass) (or_none (w StepTask0) (w StepTask1 || w LanesPass) e).1).0
  none_of e LanesPass = (or_none (w StepTask1) (w LanesPass) (or_none (w StepTask0) (w StepTask1 || w LanesPass) e).1).1

  pub one_of : (w StepTask0 || (w StepTask1 || w LanesPass)) ≡ true → (m : LanesMove) × (w m ≡ true)
  one_of e =
      elim (or_e (w StepTask0) (w StepTask1 || w LanesPass) e) [
        | inl p ↦ (StepTask0, p)
        | inr r ↦ elim (or_e (w StepTask1) (w LanesPass) r) [ inl p ↦ (StepTask1, p) | inr p ↦ (LanesPass, p) ]
      ]

module _ (l : OfficeMove → Bool) where
  pub all_of : ((o : OfficeMove) → l o ≡ true) → (l OfficePass && (l StepTask2 && (l StartGrow && l StartShrink))) ≡ true
  all_of h = rw (h OfficePass, h StepTask2, h StartGrow, h StartShrink)

  pub each_of : (l OfficePass && (l StepTask2 && (l StartGrow && l StartShrink))) ≡ true → (o : OfficeMove) → l o ≡ true
  each_of e o = go (and_right (l OfficePass) (l StepTask2 && (l StartGrow && l StartShrink)) e) o
    where
      go : (l StepTask2 && (l StartGrow && l StartShrink)) ≡ true → (o : OfficeMove) → l o ≡ true
      go r OfficePass = and_left (l OfficePass) (l StepTask2 && (l StartGrow && l StartShrink)) e
      go r StepTask2 = and_left (l StepTask2) (l StartGrow && l StartShrink) r
      go r StartGrow = and_left (l StartGrow) (l StartShrink) (and_right (l StepTask2) (l StartGrow && l StartShrink) r)
      go r StartShrink = and_right (l StartGrow) (l StartShrink) (and_right (l StepTask2) (l StartGrow && l StartShrink) r)

-- the lanes' moves, and the office's, with n plies left after them
abbrev pub wins_then : ℕ → Machine → LanesMove → Bool
wins_then n y m = wins_by (λ z. office_loses n z) y m

abbrev pub loses_then : ℕ → Machine → OfficeMove → Bool
loses_then n z o = loses_by (λ x. lanes_win n x) z o

pub some_wins : (n : ℕ) (y : Machine) (m : LanesMove) → wins_then n y m ≡ true → lanes_win (suc n) y ≡ true
unfolding lanes_win
some_wins n y m e = some_of (wins_then n y) m e

pub none_win : (n : ℕ) (y : Machine) → lanes_win (suc n) y ≡ false → (m : LanesMove) → wins_then n y m ≡ false
unfolding lanes_win
none_win n y e m = none_of (wins_then n y) e m

pub one_wins : (n : ℕ) (y : Machine) → lanes_win (suc n) y ≡ true → (m : LanesMove) × (wins_then n y m ≡ true)
unfolding lanes_win
one_wins n y e = one_of (wins_then n y) e

pub all_lose : (n : ℕ) (z : Machine) → ((o : OfficeMove) → loses_then n z o ≡ true) → office_loses (suc n) z ≡ true
unfolding office_loses
all_lose n z h = all_of (loses_then n z) h

pub each_loses : (n : ℕ) (z : Machine) → office_loses (suc n) z ≡ true → (o : OfficeMove) → loses_then n z o ≡ true
unfolding office_loses
each_loses n z e o = each_of (loses_then n z) e o

module _ (f : Machine → Bool) (y : Machine) where
  -- a move that wins: the lanes may make it, and it ends the insert or the office then loses
  pub wins_means : (m : LanesMove) → wins_by f y m ≡ true
      → (lanes_may y m ≡ true) × ((ends_insert y m ≡ true) ⊎ (f (after_lanes y m) ≡ true))
  unfolding wins_by
  wins_means m e =
      let rest = ends_insert y m || f (after_lanes y m) in
      (and_left (lanes_may y m) rest e, or_e (ends_insert y m) (f (after_lanes y m)) (and_right (lanes_may y m) rest e))

  pub means_wins : (m : LanesMove) → lanes_may y m ≡ true → (ends_insert y m ≡ true) ⊎ (f (after_lanes y m) ≡ true)
      → wins_by f y m ≡ true
  unfolding wins_by
  means_wins m e (inl p) =
      and_i (lanes_may y m) (ends_insert y m || f (after_lanes y m)) e (or_l (ends_insert y m) (f (after_lanes y m)) p)
  means_wins m e (inr p) =
      and_i (lanes_may y m) (ends_insert y m || f (after_lanes y m)) e (or_r (ends_insert y m) (f (after_lanes y m)) p)

  -- a move that does not win, though the lanes may make it
  pub fails_means : (m : LanesMove) → wins_by f y m ≡ false → lanes_may y m ≡ true
      → (ends_insert y m ≡ false) × (f (after_lanes y m) ≡ false)
  unfolding wins_by
  fails_means m e p =
      or_none (ends_insert y m) (f (after_lanes y m)) (and_none (lanes_may y m) (ends_insert y m || f (after_lanes y m)) e p)

  -- a move of the office that loses, though it may make it
  pub loses_means : (o : OfficeMove) → loses_by f y o ≡ true → office_may y o ≡ true → f (after_office y o) ≡ true
  unfolding loses_by
  loses_means o e p = go (office_may y o) (f (after_office y o)) e p
    where
      go : (a b : Bool) → (not a || b) ≡ true → a ≡ true → b ≡ true
      go true b q r = q
      go false b q r = absurd (tf r refl)

  pub means_loses : (o : OfficeMove) → (office_may y o ≡ true → f (after_office y o) ≡ true) → loses_by f y o ≡ true
  unfolding loses_by
  means_loses o h = go (office_may y o) (f (after_office y o)) h
    where
      go : (a b : Bool) → (a ≡ true → b ≡ true) → (not a || b) ≡ true
      go true b q = q refl
      go false b q = refl

  pub holds_means : (o : OfficeMove) → loses_by f y o ≡ false → (office_may y o ≡ true) × (f (after_office y o) ≡ false)
  unfolding loses_by
  holds_means o e = go (office_may y o) (f (after_office y o)) e
    where
      go : (a b : Bool) → (not a || b) ≡ false → (a ≡ true) × (b ≡ false)
      go true b q = (refl, q)
      go false b q = absurd (tf refl q)

pub pass_allowed : (z : Machine) → office_may z OfficePass ≡ true
unfolding office_may
pass_allowed z = refl
