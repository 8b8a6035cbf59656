-- A task that makes its calls alone: the head of the model's heap is as the planner has it, and by the task's position so many steps and
-- buckets are left until its call ends. Here: the definitions. Assumes nothing.
use Rattle.std.specs.Prelude.{◌≡◌, Bool, true, false, ℕ, suc, ◌+◌, ◌-◌, ◌<◌, eqb, get_or, drop, if◌then◌else◌}
use Rattle.spec.specs.declared.Answer.{Answer}
use Rattle.spec.specs.declared.Answer.TheVariants.{Done, Limit}
use Rattle.spec.specs.declared.Call.{Call}
use Rattle.spec.specs.declared.Call.TheVariants.{Contains, Grow, Shrink}
use Rattle.spec.specs.declared.Config.{Config}
use Rattle.spec.specs.Listed.{slot}
use Rattle.spec.specs.Plain.{plain}
use Rattle.spec.specs.Lines.{at_limit, resized}
use Rattle.model.specs.PlaceState.{PlaceState, empty, Filled}
use Rattle.model.specs.Heap.{Heap, abs, slot_in, state_for}
use Rattle.model.specs.Positions.{Fill, at_39, at_40, at_43, at_44, at_46, at_47, at_48, at_52, at_49, at_50, at_51, Position, no_call, lookup}
use Rattle.model.specs.Positions.{at_12, at_13, at_15, at_16, at_17, at_18, Update, at_32, at_33, at_36, Resize, at_20, at_24, at_27, at_28}
use Rattle.model.specs.Positions.{update, resize}
use Rattle.linear.specs.Matches.{resize_call, fill_line, line_at}
use Rattle.linear.specs.StartedAs.{set_of}
use Rattle.plans.specs.Plan.{Shape, head_size, fill_steps, places_steps, empty_places, after_update, after_resize}

-- ---- the head is as the shape says

abbrev pub PlaceAs : Bool → PlaceState → Type 0
PlaceAs true p = Filled p
PlaceAs false p = p ≡ empty

abbrev pub filled_at : Shape → ℕ → Bool
filled_at S i = get_or S.filled i false

pub record HeadAs (S : Shape) (h : Heap) : Type 0 where
  pub size≡ : h.size h.head ≡ head_size S
  pub pred≡ : (s : ℕ) → h.linked ≡ true → h.head ≡ suc s → h.size s ≡ S.pred

-- those places of the head for which D holds
abbrev pub PlacesAs : Shape → Heap → (ℕ → Type 0) → Type 0
PlacesAs S h D = (j : ℕ) → D j → j < head_size S → PlaceAs (filled_at S j) (h.place h.head j)

pub record LaidOut (S : Shape) (h : Heap) : Type 0 where
  pub head_as : HeadAs S h
  pub places_as : PlacesAs S h (λ j. Unit {0})

-- ---- filling a place: was it filled at line 39? What is left of the lines to 51, and of the buckets

abbrev pub FillState : Bool → PlaceState → Fill → Type 0
FillState f p at_39 = PlaceAs f p
FillState f p (at_40 b) = (b ≡ f) × PlaceAs f p
FillState f p (at_43 s) = Unit {0}
FillState f p (at_44 s) = Unit {0}
FillState f p (at_46 s) = Unit {0}
FillState f p (at_47 s) = Unit {0}
FillState f p (at_48 s) = Unit {0}
FillState f p (at_52 s) = Unit {0}
FillState f p (at_49 s) = Unit {0}
FillState f p (at_50 s) = Unit {0}
FillState f p at_51 = Unit {0}

abbrev pub fill_steps_left : Shape → Bool → Fill → ℕ
fill_steps_left S f at_39 = if f then 3 else fill_steps S
fill_steps_left S f (at_40 b) = if b then 2 else (fill_steps S - 1)
fill_steps_left S f (at_43 s) = 5
fill_steps_left S f (at_44 s) = 4
fill_steps_left S f (at_46 s) = 7
fill_steps_left S f (at_47 s) = 6
fill_steps_left S f (at_48 s) = 5
fill_steps_left S f (at_52 s) = 4
fill_steps_left S f (at_49 s) = 3
fill_steps_left S f (at_50 s) = 2
fill_steps_left S f at_51 = 1

abbrev pub fill_buckets_left : Bool → Fill → ℕ
fill_buckets_left f at_39 = if f then 0 else 1
fill_buckets_left f (at_40 b) = if b then 0 else 1
fill_buckets_left f (at_43 s) = 1
fill_buckets_left f (at_44 s) = 1
fill_buckets_left f (at_46 s) = 1
fill_buckets_left f (at_47 s) = 1
fill_buckets_left f (at_48 s) = 1
fill_buckets_left f (at_52 s) = 1
fill_buckets_left f (at_49 s) = 1
fill_buckets_left f (at_50 s) = 0
fill_buckets_left f at_51 = 0

-- 1 at line 50: a bucket has just been taken
abbrev pub fill_took : Fill → ℕ
fill_took l = if eqb (fill_line l) 50 then 1 else 0

abbrev pub took : Position → ℕ
took l = if eqb (line_at l) 50 then 1 else 0

-- ---- a call

-- growing at 32, shrinking at 1
abbrev pub limited : Bool → Shape → Bool
limited u S = at_limit (resize_call u) (head_size S)

abbrev pub resize_of : Bool → Call
resize_of true = Grow
resize_of false = Shrink

-- what a task alone has done to the head until now: S is the shape at its call's start
abbrev pub Solo : Shape → Heap → Position → Type 0
Solo S h no_call = Unit {0}
Solo S h (lookup k at_12) = LaidOut S h
Solo S h (lookup k (at_13 t)) = LaidOut S h × (t ≡ h.head)
Solo S h (lookup k (at_15 t)) = LaidOut S h × (t ≡ h.head) × (state_for h t k ≡ empty)
Solo S h (lookup k (at_16 s)) = LaidOut S h × (h.has s k ≡ abs h k)
Solo S h (lookup k (at_17 t)) = ⊥
Solo S h (lookup k (at_18 x)) = LaidOut S h × (h.has x k ≡ abs h k)
Solo S h (update u k at_32) = LaidOut S h
Solo S h (update u k (at_33 t)) = LaidOut S h × (t ≡ h.head)
Solo S h (update u k (at_36 x)) = (x ≡ h.head) × HeadAs S h × PlacesAs S h (λ j. ¬ (j ≡ slot_in h x k))
Solo S h (update u k (Update.filling t i l)) =
    (t ≡ h.head) × HeadAs S h × PlacesAs S h (λ j. ¬ (j ≡ i)) × FillState (filled_at S i) (h.place t i) l
Solo S h (resize u at_20) = LaidOut S h
Solo S h (resize u (at_24 t)) = (t ≡ h.head) × HeadAs S h × (limited u S ≡ false)
Solo S h (resize u (at_27 t)) = (t ≡ h.head) × HeadAs S h × (limited u S ≡ false)
Solo S h (resize u (at_28 t m)) = (t ≡ h.head) × HeadAs S h × (limited u S ≡ false) × (m ≡ resized (resize_call u) (head_size S))
Solo S h (resize u (Resize.filling t i l)) =
    (t ≡ h.head) × HeadAs S h × PlacesAs S h (λ j. i < j) × FillState (filled_at S i) (h.place t i) l × (limited u S ≡ false)

module _ (g : Config) (S : Shape) where
  -- the place of a tag is filled at the start of its call
  abbrev pub tag_filled : ℕ → Bool
  tag_filled k = filled_at S (slot g k (head_size S))

  -- own steps until the call ends
  abbrev pub steps_left : Position → ℕ
  steps_left no_call = 0
  steps_left (lookup k at_12) = if tag_filled k then 3 else 5
  steps_left (lookup k (at_13 t)) = if tag_filled k then 2 else 4
  steps_left (lookup k (at_15 t)) = 3
  steps_left (lookup k (at_16 s)) = 2
  steps_left (lookup k (at_17 t)) = 2
  steps_left (lookup k (at_18 x)) = 1
  steps_left (update u k at_32) = if tag_filled k then 3 else (3 + fill_steps S)
  steps_left (update u k (at_33 t)) = if tag_filled k then 2 else (2 + fill_steps S)
  steps_left (update u k (at_36 x)) = 1
  steps_left (update u k (Update.filling t i l)) = fill_steps_left S (filled_at S i) l + 1
  steps_left (resize u at_20) = if limited u S then 1 else (4 + places_steps S S.filled)
  steps_left (resize u (at_24 t)) = 3
  steps_left (resize u (at_27 t)) = 2
  steps_left (resize u (at_28 t m)) = 1
  steps_left (resize u (Resize.filling t i l)) = fill_steps_left S (filled_at S i) l + places_steps S (drop (suc i) S.filled) + 3

  -- buckets that it takes until then
  abbrev pub buckets_left : Position → ℕ
  buckets_left no_call = 0
  buckets_left (lookup k l) = 0
  buckets_left (update u k at_32) = if tag_filled k then 0 else 1
  buckets_left (update u k (at_33 t)) = if tag_filled k then 0 else 1
  buckets_left (update u k (at_36 x)) = 0
  buckets_left (update u k (Update.filling t i l)) = fill_buckets_left (filled_at S i) l
  buckets_left (resize u at_20) = if limited u S then 0 else empty_places S.filled
  buckets_left (resize u (at_24 t)) = 0
  buckets_left (resize u (at_27 t)) = 0
  buckets_left (resize u (at_28 t m)) = 0
  buckets_left (resize u (Resize.filling t i l)) = fill_buckets_left (filled_at S i) l + empty_places (drop (suc i) S.filled)

  -- its answer, and the shape after it
  abbrev pub answer_then : Position → Answer
  answer_then no_call = Done
  answer_then (lookup k l) = (plain S.tags Contains k).answer
  answer_then (update u k l) = (plain S.tags (set_of u) k).answer
  answer_then (resize u l) = if limited u S then Limit else Done

  abbrev pub shape_then : Position → Shape
  shape_then no_call = S
  shape_then (lookup k l) = S
  shape_then (update u k l) = after_update g S (set_of u) k
  shape_then (resize u l) = after_resize S (resize_of u)
