-- A count that fits its position (specs/CountFits) is within the most steps of its call, and below them while the call runs. Assumes nothing.
use Rattle.std.specs.Prelude.{refl, Bool, true, false, List, ℕ, ◌+◌, ◌*◌, ◌≤◌, ◌<◌}
use Rattle.std.proofs.Common.{inl, arith}
use Rattle.spec.specs.History.{Ended}
use Rattle.laws.specs.Tests.{tf}
use Rattle.model.specs.Heap.{Heap}
use Rattle.model.specs.Positions.{Fill, at_39, at_40, at_43, at_44, at_46, at_47, at_48, at_52, at_49, at_50, at_51, Position, no_call, lookup}
use Rattle.model.specs.Positions.{at_12, at_13, at_15, at_16, at_17, at_18, Update, at_32, at_33, at_36, Resize, at_20, at_24, at_27, at_28}
use Rattle.model.specs.Positions.{update, resize}
use Rattle.model.specs.PositionFacts.{PositionFacts}
use Rattle.linear.specs.KnownNodes.{Names, FillNames}
use Rattle.linear.specs.StartedAs.{set_of}
use Rattle.pace.specs.StepCounts.{CallCount, most_steps}
use Rattle.pace.specs.Pace.{resize_of, lines_before}
use Rattle.pace.specs.CountFits.{RunningFits, Fits, not_running, is_running, WithinMost}

-- ---- each position's bound is below its call's

at_most_eight : (l : Fill) → lines_before l ≤ 8
at_most_eight at_39 = omega arith
at_most_eight (at_40 b) = omega arith
at_most_eight (at_43 s) = omega arith
at_most_eight (at_44 s) = omega arith
at_most_eight (at_46 s) = omega arith
at_most_eight (at_47 s) = omega arith
at_most_eight (at_48 s) = omega arith
at_most_eight (at_52 s) = omega arith
at_most_eight (at_49 s) = omega arith
at_most_eight (at_50 s) = omega arith
at_most_eight at_51 = omega arith

fill_names_t : (t : ℕ) (l : Fill) → FillNames t l t
fill_names_t t at_39 = refl
fill_names_t t (at_40 b) = refl
fill_names_t t (at_43 s) = inl refl
fill_names_t t (at_44 s) = inl refl
fill_names_t t (at_46 s) = inl refl
fill_names_t t (at_47 s) = inl refl
fill_names_t t (at_48 s) = inl refl
fill_names_t t (at_52 s) = inl refl
fill_names_t t (at_49 s) = inl refl
fill_names_t t (at_50 s) = inl refl
fill_names_t t at_51 = refl

-- of an insert or a remove, and of a resize
most_update : (u : Bool) (r m : ℕ) → m < 12 * (1 + r) → m < most_steps (set_of u) r
most_update true r m lt = omega arith
most_update false r m lt = omega arith

most_resize : (u : Bool) (r m : ℕ) → m < 292 → m < most_steps (resize_of u) r
most_resize true r m lt = lt
most_resize false r m lt = lt

module _ (slack : ℕ) (h : Heap) (c : CallCount) (L : List Ended) (r : ℕ) where
  abbrev R : ℕ
  R = c.resizes + slack

  pub running_below : (l : Position) → PositionFacts h L r l → ((x : ℕ) → Names l x → h.size x ≤ 32) → RunningFits slack h l c
      → c.accepted < most_steps c.call R
  running_below no_call o sz t = absurd t.paced.is_call
  running_below (lookup k at_12) o sz t = let m = t.paced.made in rw t.paced.is_call (omega arith)
  running_below (lookup k (at_13 x)) o sz t = let m = t.paced.made in rw t.paced.is_call (omega arith)
  running_below (lookup k (at_15 x)) o sz t = let m = t.paced.made in rw t.paced.is_call (omega arith)
  running_below (lookup k (at_16 x)) o sz t = let m = t.paced.made in rw t.paced.is_call (omega arith)
  running_below (lookup k (at_17 x)) o sz t = let m = t.paced.made in rw t.paced.is_call (omega arith)
  running_below (lookup k (at_18 x)) o sz t = let m = t.paced.made in rw t.paced.is_call (omega arith)
  running_below (update u k at_32) o sz t =
      let m = t.paced.made in let n = t.moved_by in rw t.paced.is_call (most_update u R c.accepted (omega arith))
  running_below (update u k (at_33 x)) o sz t =
      let m = t.paced.made in let n = t.moved_by in rw t.paced.is_call (most_update u R c.accepted (omega arith))
  running_below (update u k (at_36 x)) o sz t =
      let m = t.paced.made in let n = t.moved_by in let q = o.0 in rw t.paced.is_call (most_update u R c.accepted (omega arith))
  running_below (update u k (Update.filling x i l)) o sz t =
      let m = t.paced.made in
      let n = t.moved_by in
      let q = o.0.0 in
      let f = at_most_eight l in
      rw t.paced.is_call (most_update u R c.accepted (omega arith))
  running_below (resize u at_20) o sz t = let m = t.paced.made in rw t.paced.is_call (most_resize u R c.accepted (omega arith))
  running_below (resize u (at_24 x)) o sz t = let m = t.paced.made in rw t.paced.is_call (most_resize u R c.accepted (omega arith))
  running_below (resize u (at_27 x)) o sz t = let m = t.paced.made in rw t.paced.is_call (most_resize u R c.accepted (omega arith))
  running_below (resize u (at_28 x n)) o sz t = let m = t.paced.made in rw t.paced.is_call (most_resize u R c.accepted (omega arith))
  running_below (resize u (Resize.filling x i l)) o sz t =
      let m = t.paced.made in
      let f = at_most_eight l in
      let i< = o.0.1 in
      let z = sz x (fill_names_t x l) in
      rw t.paced.is_call (most_resize u R c.accepted (omega arith))

  pub fits_within : (l : Position) → PositionFacts h L r l → ((x : ℕ) → Names l x → h.size x ≤ 32) → Fits slack h l c
      → WithinMost slack c
  fits_within l o sz (not_running a b m) = (m, λ q. absurd (tf q b))
  fits_within l o sz (is_running b t) = let q = running_below l o sz t in (omega arith, λ z. q)
