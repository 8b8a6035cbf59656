-- The moves tried one after the other: what is left to try decides. Assumes nothing.
use Rattle.std.specs.Prelude.{if◌then◌else◌}
use Prim.Native.Nat.{ℕ, zero, suc, ◌+◌, ◌-◌, ◌≤◌, ◌<◌}
use mathlib.Core.Path.{◌≡◌, refl, sym, ap, ◌∙◌}
use mathlib.Core.Bool.{Bool, true, false, not, ◌&&◌, ◌||◌}
use mathlib.Core.List.{List, [], ◌∷◌}
use lib.ListN.{length, get_or, drop, drop_of_length-le}
use Rattle.std.proofs.lemmas.List.{drop_more}
use Rattle.std.specs.declared.option.Option.{Option}
use Rattle.std.specs.declared.option.Option.TheVariants.{Some, None}
use native.Mathlib.Omega.{arith}
use Rattle.spec.specs.Machine.{Machine}
use Rattle.game.specs.declared.LanesMove.{LanesMove}
use Rattle.game.specs.declared.LanesMove.TheVariants.{StepTask0, StepTask1, LanesPass}
use Rattle.game.specs.declared.OfficeMove.{OfficeMove}
use Rattle.game.specs.declared.OfficeMove.TheVariants.{StepTask2, StartGrow, StartShrink, OfficePass}
use Rattle.game.specs.declared.Verdict.TheVariants.{LanesWin, OfficeHolds}
use Rattle.game.specs.Game.{lanes_may, after_lanes, ends_insert, wins_by, office_may, after_office, loses_by, lanes_win, office_loses, winning_move}
use Rattle.play.specs.Moves.{lanes_moves, office_moves, said_of}

-- a ply is left
one_more : (left : ℕ) → (left ≡ 0 → ⊥) → suc (left - 1) ≡ left
one_more zero d = absurd (d refl)
one_more (suc n) d = omega arith

-- ---- the lanes' moves: the first that wins

unfoldable pub first_in : (LanesMove → Bool) → List LanesMove → Option LanesMove
first_in w [] = None
first_in w (m ∷ ms) = if w m then Some m else first_in w ms

module _ (w : LanesMove → Bool) (ms : List LanesMove) (i : ℕ) (d : LanesMove) (h : i < length ms) where
  pub fails_at : w (get_or ms i d) ≡ false → first_in w (drop i ms) ≡ first_in w (drop (i + 1) ms)
  unfolding first_in
  fails_at e = rw (drop_more ms i d h, e) refl

  pub wins_at : w (get_or ms i d) ≡ true → first_in w (drop i ms) ≡ Some (get_or ms i d)
  unfolding first_in
  wins_at e = rw (drop_more ms i d h, e) refl

pub none_left : (w : LanesMove → Bool) (ms : List LanesMove) (i : ℕ) → length ms ≤ i → first_in w (drop i ms) ≡ None
unfolding first_in
none_left w ms i h = rw (drop_of_length-le ms h) refl

module _ (left : ℕ) (y : Machine) where
  pub lanes_no_ply : left ≡ 0 → winning_move left y ≡ said_of None
  unfolding winning_move
  lanes_no_ply e = ap (λ (n : ℕ). winning_move n y) e

  abbrev wins : LanesMove → Bool
  wins m = wins_by (λ z. office_loses (left - 1) z) y m

  said_first : (a b c : Bool)
      → said_of (if a then Some StepTask0 else if b then Some StepTask1 else if c then Some LanesPass else None)
      ≡ (if a then LanesWin StepTask0 else if b then LanesWin StepTask1 else if c then LanesWin LanesPass else OfficeHolds)
  said_first true b c = refl
  said_first false true c = refl
  said_first false false true = refl
  said_first false false false = refl

  pub all_lanes : (left ≡ 0 → ⊥) → said_of (first_in wins lanes_moves) ≡ winning_move left y
  unfolding winning_move first_in
  all_lanes h = said_first (wins StepTask0) (wins StepTask1) (wins LanesPass) ∙ ap (λ (n : ℕ). winning_move n y) (one_more left h)

-- one move, by whether it may be made and what comes after it
module _ (f : Machine → Bool) (y : Machine) (m : LanesMove) where
  pub may_not : lanes_may y m ≡ false → wins_by f y m ≡ false
  unfolding wins_by
  may_not e = ap (λ (b : Bool). b && (ends_insert y m || f (after_lanes y m))) e

  pub wins_as : lanes_may y m ≡ true → (w : Bool) → w ≡ (ends_insert y m || f (after_lanes y m)) → wins_by f y m ≡ w
  unfolding wins_by
  wins_as e w g = ap (λ (b : Bool). b && (ends_insert y m || f (after_lanes y m))) e ∙ sym g

-- ---- the office's moves: each loses

unfoldable pub each_in : (OfficeMove → Bool) → List OfficeMove → Bool
each_in l [] = true
each_in l (o ∷ os) = l o && each_in l os

module _ (l : OfficeMove → Bool) (os : List OfficeMove) (i : ℕ) (d : OfficeMove) (h : i < length os) where
  pub loses_at : l (get_or os i d) ≡ true → each_in l (drop i os) ≡ each_in l (drop (i + 1) os)
  unfolding each_in
  loses_at e = rw (drop_more os i d h, e) refl

  pub holds_at : l (get_or os i d) ≡ false → each_in l (drop i os) ≡ false
  unfolding each_in
  holds_at e = rw (drop_more os i d h, e) refl

pub all_lost : (l : OfficeMove → Bool) (os : List OfficeMove) (i : ℕ) → length os ≤ i → each_in l (drop i os) ≡ true
unfolding each_in
all_lost l os i h = rw (drop_of_length-le os h) refl

module _ (left : ℕ) (y : Machine) where
  pub office_no_ply : left ≡ 0 → office_loses left y ≡ false
  unfolding office_loses
  office_no_ply e = ap (λ (n : ℕ). office_loses n y) e

  abbrev loses : OfficeMove → Bool
  loses o = loses_by (λ z. lanes_win (left - 1) z) y o

  each_of : (a b c d : Bool) → (a && (b && (c && (d && true)))) ≡ (a && (b && (c && d)))
  each_of true true true true = refl
  each_of true true true false = refl
  each_of true true false d = refl
  each_of true false c d = refl
  each_of false b c d = refl

  pub all_office : (left ≡ 0 → ⊥) → each_in loses office_moves ≡ office_loses left y
  unfolding office_loses each_in
  all_office h =
      each_of (loses OfficePass) (loses StepTask2) (loses StartGrow) (loses StartShrink) ∙ ap (λ (n : ℕ). office_loses n y) (one_more left h)

module _ (f : Machine → Bool) (y : Machine) (o : OfficeMove) where
  pub office_may_not : office_may y o ≡ false → loses_by f y o ≡ true
  unfolding loses_by
  office_may_not e = ap (λ (b : Bool). not b || f (after_office y o)) e

  pub loses_as : office_may y o ≡ true → (w : Bool) → w ≡ f (after_office y o) → loses_by f y o ≡ w
  unfolding loses_by
  loses_as e w g = ap (λ (b : Bool). not b || f (after_office y o)) e ∙ sym g
