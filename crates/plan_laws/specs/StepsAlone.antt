-- Each step of a task alone brings its call's end one step nearer, and a bucket is taken by line 49 alone. One case for each step of the
-- model. Line 20 is the only one that the model leaves open: whether it ends is said by the words. Assumes nothing.
use Rattle.std.specs.Prelude.{◌≡◌, Bool, true, List, [], ℕ, suc, pred, ◌+◌, ◌*◌, ◌/◌, ◌%◌, ◌<◌, drop, if◌then◌else◌}
use Rattle.std.proofs.Math.Path.{refl, sym}
use Rattle.std.proofs.Common.{ap, ◌∙◌, subst, arith, drop_of_length-le, drop-cons}
use Rattle.std.proofs.Math.Bool.{false}
use Rattle.std.proofs.Math.Nat.{mul-div_cancel_left}
use Rattle.spec.specs.declared.Config.{Config}
use Rattle.spec.specs.Listed.{slot}
use Rattle.spec.specs.Lines.{resized}
use Rattle.spec.specs.History.{Ended}
use Rattle.laws.specs.Tests.{tf}
use Rattle.model.specs.PlaceState.{PlaceState, empty, Filled, filled_not_empty}
use Rattle.model.specs.Heap.{Heap, abs, slot_in, state_for, decider_empty, decider_filled}
use Rattle.model.specs.HeapInvariant.{HeapInvariant, place<}
use Rattle.model.specs.FillSteps.{fill_head, no_pred_filled}
use Rattle.model.specs.Positions.{at_39, Update, at_33, at_36, Resize, at_20, Position, no_call, update, resize}
use Rattle.model.specs.Lines.{Step, step_12, step_13_filled, step_13_empty, step_15_some, step_15_none, step_16, step_17, step_32, step_33_filled}
use Rattle.model.specs.Lines.{step_33_empty, step_36_frozen, update_fills, step_51_update, step_20, resize_fills, step_51_next, step_51_last}
use Rattle.model.specs.Lines.{step_24_head, step_24_past, step_27_grow, step_27_shrink, step_20_limit, step_28_done, step_28_lost}
use Rattle.model.specs.PositionFacts.{PositionFacts}
use Rattle.plans.specs.Plan.{Shape, head_size, fill_steps, place_steps, places_steps, empty_places}
use Rattle.plan_laws.specs.Alone.{PlaceAs, filled_at, HeadAs, PlacesAs, LaidOut, fill_steps_left, fill_buckets_left, took, limited, Solo}
use Rattle.plan_laws.specs.Alone.{tag_filled, steps_left, buckets_left, answer_then, shape_then}
use Rattle.plan_laws.specs.FillingAlone.{fill_next}

-- ---- a step that does not end the call
pub record SoloNext (g : Config) (S : Shape) (l : Position) (h : Heap) (l' : Position) : Type 0 where
  pub solo : Solo S h l'
  pub steps : steps_left g S l ≡ suc (steps_left g S l')
  pub buckets : buckets_left g S l ≡ took l' + buckets_left g S l'
  pub answer : answer_then g S l ≡ answer_then g S l'
  pub shape : shape_then g S l ≡ shape_then g S l'

one_more : (b : Bool) (x y x' y' : ℕ) → x ≡ suc x' → y ≡ suc y' → (if b then x else y) ≡ suc (if b then x' else y')
one_more true x y x' y' p q = p
one_more false x y x' y' p q = q

filled_means : (f : Bool) (p : PlaceState) → PlaceAs f p → Filled p → f ≡ true
filled_means true p a e = refl
filled_means false p a e = absurd (filled_not_empty e a)

empty_means : (f : Bool) (p : PlaceState) → PlaceAs f p → p ≡ empty → f ≡ false
empty_means true p a e = absurd (filled_not_empty a e)
empty_means false p a e = refl

-- ---- place i, and the later ones

module _ (S : Shape) (i : ℕ) (lt : i < head_size S) where
  steps_from : places_steps S (drop i S.filled) ≡ fill_steps_left S (filled_at S i) at_39 + places_steps S (drop (suc i) S.filled)
  unfolding place_steps places_steps
  steps_from = rw (drop-cons S.filled i false lt)

  buckets_from : empty_places (drop i S.filled) ≡ fill_buckets_left (filled_at S i) at_39 + empty_places (drop (suc i) S.filled)
  unfolding empty_places
  buckets_from = rw (drop-cons S.filled i false lt)

no_steps : (S : Shape) → places_steps S [] ≡ 0
unfolding places_steps
no_steps S = refl

no_buckets : empty_places [] ≡ 0
unfolding empty_places
no_buckets = refl

-- the rule for a tag's place is that of the yard
abbrev pub KeyOf : Config → Heap → Type 0
KeyOf g h = (k n : ℕ) → h.key k % n ≡ slot g k n

module _ (g : Config) (h : Heap) (inv : HeapInvariant h) (keys : KeyOf g h) (S : Shape) where
  -- the tag's place in the head
  pub slot_is : HeadAs S h → (t k : ℕ) → t ≡ h.head → slot_in h t k ≡ slot g k (head_size S)
  slot_is ha t k q = ap (λ (n : ℕ). h.key k % n) (ap h.size q ∙ ha.size≡) ∙ keys k (head_size S)

  pub slot_below : HeadAs S h → (k : ℕ) → slot g k (head_size S) < head_size S
  slot_below ha k =
      let a = place< h inv h.head (h.key k) (omega arith) in
      let b = slot_is ha h.head k refl in
      let c = ha.size≡ in
      omega arith

  tag_place : LaidOut S h → (t k : ℕ) → t ≡ h.head → PlaceAs (tag_filled g S k) (state_for h t k)
  tag_place o t k q =
      let e : h.place h.head (slot g k (head_size S)) ≡ state_for h t k =
      ap (h.place h.head) (sym (slot_is o.head_as t k q)) ∙ ap (λ (x : ℕ). h.place x (slot_in h t k)) (sym q) in
      subst (PlaceAs (tag_filled g S k)) e (o.places_as (slot g k (head_size S)) tt (slot_below o.head_as k))

  tag_is_filled : LaidOut S h → (t k : ℕ) → t ≡ h.head → Filled (state_for h t k) → tag_filled g S k ≡ true
  tag_is_filled o t k q f = filled_means (tag_filled g S k) (state_for h t k) (tag_place o t k q) f

  tag_is_empty : LaidOut S h → (t k : ℕ) → t ≡ h.head → state_for h t k ≡ empty → tag_filled g S k ≡ false
  tag_is_empty o t k q f = empty_means (tag_filled g S k) (state_for h t k) (tag_place o t k q) f

  size_positive : HeadAs S h → 0 < head_size S
  size_positive ha = rw ha.size≡ at (inv.sizes_positive h.head (omega arith))

  -- place i of the head
  place_at : (D : ℕ → Type 0) → HeadAs S h → PlacesAs S h D → (t i : ℕ) → t ≡ h.head → D i → i < h.size t
      → PlaceAs (filled_at S i) (h.place t i)
  place_at D ha pa t i q d lt =
      let n : i < head_size S = rw (q, ha.size≡) at lt in
      subst (λ (x : ℕ). PlaceAs (filled_at S i) (h.place x i)) (sym q) (pa i d n)

  -- a contains reads the bucket that decides: the head's, or where that place is empty the predecessor's
  read_head : (t k : ℕ) → t ≡ h.head → Filled (state_for h t k) → h.has t k ≡ abs h k
  read_head t k q f =
      let e = decider_filled h.head (rw q at f) in
      ap (λ (x : ℕ). h.has x k) (q ∙ sym e)

  read_pred : (t s k : ℕ) → t ≡ h.head → t ≡ suc s → state_for h t k ≡ empty → h.has s k ≡ abs h k
  read_pred t s k q n f =
      let e = decider_empty h.head (rw q at f) in
      let p : s ≡ pred h.head = omega arith in
      ap (λ (x : ℕ). h.has x k) (p ∙ sym e)

  -- an insert or a remove meets a filled place
  met_filled : LaidOut S h → (u : Bool) (k t : ℕ) → t ≡ h.head → Filled (state_for h t k)
      → SoloNext g S (update u k (at_33 t)) h (update u k (at_36 t))
  met_filled o u k t q f =
      let e = tag_is_filled o t k q f in
      record { solo = (q, o.head_as, λ j d. o.places_as j tt); steps = rw e refl; buckets = rw e refl; answer = refl; shape = refl }

  -- and an empty one
  met_empty : LaidOut S h → (u : Bool) (k t : ℕ) → t ≡ h.head → state_for h t k ≡ empty
      → SoloNext g S (update u k (at_33 t)) h (update u k (Update.filling t (slot_in h t k) at_39))
  met_empty o u k t q f =
      let e = tag_is_empty o t k q f in
      let v : filled_at S (slot_in h t k) ≡ false = ap (filled_at S) (slot_is o.head_as t k q) ∙ e in
      record {
        solo = (q, o.head_as, λ j d. o.places_as j tt, subst (λ (v : Bool). PlaceAs v (state_for h t k)) (sym v) f);
        steps = rw (e, v) (omega arith);
        buckets = rw (e, v) refl;
        answer = refl;
        shape = refl;
      }

  -- the size of the node that line 27 takes
  halved : (m n : ℕ) → n ≡ 2 * m → m ≡ resized 5 n
  unfolding resized
  halved m n e = sym (ap (λ (x : ℕ). x / 2) e ∙ mul-div_cancel_left m (omega arith))

  doubled : (n : ℕ) → 2 * n ≡ resized 4 n
  unfolding resized
  doubled n = refl

  -- a step that changes nothing of what is kept
  on : {l : Position} (l' : Position) → Solo S h l' → steps_left g S l ≡ suc (steps_left g S l')
      → buckets_left g S l ≡ took l' + buckets_left g S l' → answer_then g S l ≡ answer_then g S l' → shape_then g S l ≡ shape_then g S l'
      → SoloNext g S l h l'
  on l' s a b c d = record { solo = s; steps = a; buckets = b; answer = c; shape = d }

  module _ (M : List Ended) (r : ℕ) where
    pub solo_step : {l l' : Position} {z : Heap} → Step h l z l' → PositionFacts h M r l → Solo S h l → ¬ (l' ≡ no_call)
        → ((u : Bool) → l ≡ resize u at_20 → limited u S ≡ false) → SoloNext g S l z l'
    solo_step (step_12 {k = k}) o s d may = on _ (s, refl) (one_more (tag_filled g S k) 3 5 2 4 refl refl) refl refl refl
    solo_step (step_13_filled {k = k} {t = t} f) o s d may =
        let e = tag_is_filled s.0 t k s.1 f in on _ (s.0, read_head t k s.1 f) (rw e refl) refl refl refl
    solo_step (step_13_empty {k = k} {t = t} f) o s d may =
        let e = tag_is_empty s.0 t k s.1 f in on _ (s.0, s.1, f) (rw e refl) refl refl refl
    solo_step (step_15_some {k = k} {t = t} {s = x} p) o s d may = on _ (s.0, read_pred t x k s.1 p.2 s.2) refl refl refl refl
    solo_step (step_15_none {k = k} {t = t} n) o s d may =
        let le = o.0 in
        absurd (filled_not_empty (no_pred_filled h inv t (slot_in h t k) le n (place< h inv t (h.key k) le)) s.2)
    solo_step step_16 o s d may = on _ s refl refl refl refl
    solo_step step_17 o s d may = absurd s
    solo_step (step_32 {k = k}) o s d may =
        on _ (s, refl) (one_more (tag_filled g S k) 3 (3 + fill_steps S) 2 (2 + fill_steps S) refl (omega arith)) (omega arith) refl refl
    solo_step (step_33_filled {b = u} {k = k} {t = t} f) o s d may = met_filled s.0 u k t s.1 f
    solo_step (step_33_empty {b = u} {k = k} {t = t} e) o s d may = met_empty s.0 u k t s.1 e
    solo_step (step_36_frozen {k = k} {x = x} e) o s d may =
        absurd (inv.head_changeable (slot_in h h.head k) (place< h inv h.head (h.key k) (omega arith)) (rw s.0 at e))
    solo_step (update_fills {t = t} {i = i} f) o s d may =
        let n = fill_next S h inv (λ j. ¬ (j ≡ i)) t i (λ j d. d) s.0 (filled_at S i) s.1 s.2 f o.0 o.2 s.3 in
        let a = n.steps in
        record {
          solo = (s.0 ∙ sym (fill_head f), n.head_as, n.places_as, n.state);
          steps = omega arith;
          buckets = n.buckets;
          answer = refl;
          shape = refl;
        }
    solo_step step_51_update o s d may = on _ (s.0, s.1, λ j n. s.2 j (λ e. n (e ∙ sym o.1))) refl refl refl refl
    solo_step (step_20 {b = u}) o s d may =
        let e = may u refl in
        let p = size_positive s.head_as in
        let a = steps_from S 0 p in
        let c = buckets_from S 0 p in
        let to = resize u (Resize.filling h.head 0 at_39) in
        let x : 4 + places_steps S S.filled ≡ suc (steps_left g S to) = omega arith in
        let y : empty_places S.filled ≡ 0 + buckets_left g S to = omega arith in
        on to (refl, s.head_as, λ j lt. s.places_as j tt, s.places_as 0 tt p, e) (rw e x) (rw e y) refl refl
    solo_step (resize_fills {t = t} {i = i} f) o s d may =
        let n = fill_next S h inv (λ j. i < j) t i (λ j d e. omega arith) s.0 (filled_at S i) s.1 s.2 f o.0 o.2 s.3 in
        let a = n.steps in
        let b = n.buckets in
        record {
          solo = (s.0 ∙ sym (fill_head f), n.head_as, n.places_as, n.state, s.4);
          steps = omega arith;
          buckets = omega arith;
          answer = refl;
          shape = refl;
        }
    solo_step (step_51_next {t = t} {i = i} c) o s d may =
        let lt : suc i < head_size S = rw (s.0, s.1.size≡) at c in
        let a = steps_from S (suc i) lt in
        let b = buckets_from S (suc i) lt in
        let there = place_at (λ j. i < j) s.1 s.2 t (suc i) s.0 (omega arith) c in
        on _ (s.0, s.1, λ j n. s.2 j (omega arith), there, s.4) (omega arith) (omega arith) refl refl
    solo_step (step_51_last {t = t} {i = i} c) o s d may =
        let e : suc i ≡ head_size S = rw (s.0, s.1.size≡) at c in
        let z = drop_of_length-le S.filled {i = suc i} (omega arith) in
        on _ (s.0, s.1, s.4) (rw (z, no_steps S) refl) (rw (z, no_buckets) refl) refl refl
    solo_step (step_24_head q) o s d may = record {
      solo = (s.0, record { size≡ = s.1.size≡; pred≡ = λ x l. absurd (tf l refl) }, s.2);
      steps = refl;
      buckets = refl;
      answer = refl;
      shape = refl;
    }
    solo_step (step_24_past n) o s d may = absurd (n s.0)
    solo_step (step_27_grow {t = t}) o s d may =
        let e : h.size t ≡ head_size S = ap h.size s.0 ∙ s.1.size≡ in
        on _ (s.0, s.1, s.2, doubled (h.size t) ∙ ap (resized 4) e) refl refl refl refl
    solo_step (step_27_shrink {t = t} {n = n} q) o s d may =
        let e : h.size t ≡ head_size S = ap h.size s.0 ∙ s.1.size≡ in
        on _ (s.0, s.1, s.2, halved n (h.size t) q ∙ ap (resized 5) e) refl refl refl refl
    solo_step step_20_limit o s d may = absurd (d refl)
    solo_step (step_28_done q) o s d may = absurd (d refl)
    solo_step (step_28_lost q) o s d may = absurd (d refl)
