-- The step that ends a call of a task alone: one step and no bucket was left, the answer is the planner's, and so is the head after it and
-- the set. Line 36 leaves the tag's place filled; line 28 makes a head whose places are all empty. Assumes nothing.
use Rattle.std.specs.Prelude.{◌≡◌, Bool, ◌⊎◌, List, [], ℕ, suc, ◌<◌, get_or, set, replicate}
use Rattle.std.proofs.Math.Path.{refl, sym, ap}
use Rattle.std.proofs.Common.{◌∙◌, subst, inl, inr, arith, get_or-set_same, get_or-set_other}
use Rattle.std.proofs.Math.Bool.{true, false}
use Rattle.std.proofs.Math.Decide.{ℕ_discrete}
use Rattle.std.proofs.Math.ListN.{length-set}
use Rattle.std.proofs.lemmas.List.{length-replicate}
use Rattle.spec.specs.declared.Answer.{Answer}
use Rattle.spec.specs.declared.Answer.TheVariants.{Done, Limit}
use Rattle.spec.specs.declared.Call.{Call}
use Rattle.spec.specs.declared.Call.TheVariants.{Contains}
use Rattle.spec.specs.declared.Config.{Config}
use Rattle.spec.specs.Lists.{member}
use Rattle.spec.specs.Listed.{slot}
use Rattle.spec.specs.Plain.{found_answer, plain_contains, plain}
use Rattle.spec.specs.Lines.{resized}
use Rattle.spec.specs.History.{Ended}
use Rattle.spec.specs.Linearizable.{after}
use Rattle.laws.specs.Ascending.{Rising}
use Rattle.laws.specs.SameTags.{rising_same}
use Rattle.model.specs.Functions.{upd, upd_same, upd_other}
use Rattle.model.specs.PlaceState.{PlaceState, empty, changeable, Filled, filled_changeable}
use Rattle.model.specs.Heap.{Heap, abs, put, advance, slot_in, state_for}
use Rattle.model.specs.HeapInvariant.{HeapInvariant}
use Rattle.model.specs.Positions.{at_20, Position, no_call, resize}
use Rattle.model.specs.Lines.{Step, step_20_limit, step_28_done, step_28_lost, EndStep, end_18, end_36_kept, end_36_added, end_36_removed}
use Rattle.model.specs.Lines.{end_36_absent}
use Rattle.model.specs.Orders.{after_rising}
use Rattle.model.specs.PositionFacts.{PositionFacts}
use Rattle.model.specs.Ends.{EndPlace, at_end, at_witness, ended_step}
use Rattle.linear.specs.Matches.{resize_call}
use Rattle.linear.specs.StartedAs.{set_of}
use Rattle.linear.specs.Opening.{same_default}
use Rattle.plans.specs.Plan.{Shape, head_size, after_update, after_resize}
use Rattle.plan_laws.specs.Alone.{PlaceAs, HeadAs, PlacesAs, LaidOut, limited, resize_of, Solo, steps_left, buckets_left}
use Rattle.plan_laws.specs.Alone.{answer_then, shape_then}
use Rattle.plan_laws.specs.StepsAlone.{KeyOf, slot_is, slot_below}

-- the plain set has the listed tags
abbrev pub TagsAs : List ℕ → Heap → Type 0
TagsAs ts h = (k : ℕ) → member k ts ≡ abs h k

pub record SoloEnd (g : Config) (S : Shape) (l : Position) (z : Heap) (a : Answer) : Type 0 where
  pub laid_out : LaidOut (shape_then g S l) z
  pub tags_as : TagsAs (shape_then g S l).tags z
  pub answer : a ≡ answer_then g S l
  pub steps : steps_left g S l ≡ 1
  pub buckets : buckets_left g S l ≡ 0

module _ (g : Config) (h : Heap) (inv : HeapInvariant h) (keys : KeyOf g h) (S : Shape) where
  -- ---- line 36 leaves the tag's place filled
  module _ (u : Bool) (k x : ℕ) (s : (x ≡ h.head) × HeadAs S h × PlacesAs S h (λ j. ¬ (j ≡ slot_in h x k))) (e : state_for h x k ≡ changeable) where
    abbrev i : ℕ
    i = slot g k (head_size S)

    at_i : slot_in h x k ≡ i
    at_i = slot_is g h inv keys S s.1 x k s.0

    there : Filled (h.place h.head i)
    there =
        subst (λ (n : ℕ). Filled (h.place h.head n)) at_i
        (subst (λ (y : ℕ). Filled (h.place y (slot_in h x k))) s.0 (filled_changeable e))

    place_36 : (j : ℕ) → j < head_size S → Dec (j ≡ i) → PlaceAs (get_or (set S.filled i true) j false) (h.place h.head j)
    place_36 j lt (yes q) = rw (q, get_or-set_same S.filled i true false (slot_below g h inv keys S s.1 k)) there
    place_36 j lt (no n) = rw (get_or-set_other S.filled i j true false n) (s.2 j (λ q. n (q ∙ at_i)) lt)

    after_36 : LaidOut (after_update g S (set_of u) k) h
    unfolding after_update
    after_36 =
        let same = length-set S.filled i true in
        record {
          head_as = record { size≡ = s.1.size≡ ∙ sym same; pred≡ = s.1.pred≡ };
          places_as = λ j t lt. place_36 j (rw same at lt) (ℕ_discrete j i);
        }

  put_laid_out : (K : Shape) (x k : ℕ) (v : Bool) → LaidOut K h → LaidOut K (put x k v h)
  put_laid_out K x k v o =
      record { head_as = record { size≡ = o.head_as.size≡; pred≡ = o.head_as.pred≡ }; places_as = o.places_as }

  -- ---- the answers: what is put last in the model's order of calls, the plain set answers
  module _ (L : List Ended) (same : (k : ℕ) → member k (after [] L) ≡ abs h k) (r : ℕ) (up : Rising S.tags) (tags : TagsAs S.tags h) where
    set_is : after [] L ≡ S.tags
    set_is = rising_same (after [] L) S.tags (after_rising [] L tt) up (λ k. same k ∙ sym (tags k))

    placed_last : {c : Call} {k : ℕ} {z : Heap} {a : Answer} → EndPlace h L r c k z a → ¬ (c ≡ Contains)
        → (a ≡ (plain S.tags c k).answer) × TagsAs (plain S.tags c k).tags z
    placed_last {c} {k} (at_end v le says now news) n =
        (sym says ∙ ap (λ (ts : List ℕ). (plain ts c k).answer) set_is, rw set_is at now)
    placed_last (at_witness w) n = absurd (n refl)

    -- an insert or a remove
    updated : (u : Bool) {l : Position} {k : ℕ} {z : Heap} {a : Answer} → EndStep h l (set_of u) k z a → PositionFacts h L r l
        → (a ≡ (plain S.tags (set_of u) k).answer) × TagsAs (plain S.tags (set_of u) k).tags z
    updated true e o = placed_last (ended_step h inv L same r e o) (λ q. let z : ◌≡◌ {A = ℕ} 0 1 = cc in omega arith)
    updated false e o = placed_last (ended_step h inv L same r e o) (λ q. let z : ◌≡◌ {A = ℕ} 0 1 = cc in omega arith)

    pub solo_end : {l : Position} {c : Call} {k : ℕ} {z : Heap} {a : Answer} → EndStep h l c k z a → PositionFacts h L r l → Solo S h l
        → SoloEnd g S l z a
    unfolding plain plain_contains after_update
    solo_end (end_18 {k = k} {x = x}) o s =
        record { laid_out = s.0; tags_as = tags; answer = ap found_answer (s.1 ∙ sym (tags k)); steps = refl; buckets = refl }
    solo_end (end_36_kept {k = k} {x = x} m e q n) o s =
        let w = updated true (end_36_kept {k = k} {x = x} m e q n) o in
        record { laid_out = after_36 true k x s e; tags_as = w.1; answer = w.0; steps = refl; buckets = refl }
    solo_end (end_36_added {k = k} {x = x} m e q n) o s =
        let w = updated true (end_36_added {k = k} {x = x} m e q n) o in
        record { laid_out = put_laid_out _ x k true (after_36 true k x s e); tags_as = w.1; answer = w.0; steps = refl; buckets = refl }
    solo_end (end_36_removed {k = k} {x = x} e v) o s =
        let w = updated false (end_36_removed {k = k} {x = x} e v) o in
        record { laid_out = put_laid_out _ x k false (after_36 false k x s e); tags_as = w.1; answer = w.0; steps = refl; buckets = refl }
    solo_end (end_36_absent {k = k} {x = x} e v) o s =
        let w = updated false (end_36_absent {k = k} {x = x} e v) o in
        record { laid_out = after_36 false k x s e; tags_as = w.1; answer = w.0; steps = refl; buckets = refl }

  -- ---- a new head: all its places are empty, its size is twice or half
  is_new : (u : Bool) → limited u S ≡ false
      → after_resize S (resize_of u) ≡ record { pred = head_size S; filled = replicate (resized (resize_call u) (head_size S)) false; tags = S.tags }
  unfolding after_resize
  is_new true f = rw f
  is_new false f = rw f

  is_old : (u : Bool) → limited u S ≡ true → after_resize S (resize_of u) ≡ S
  unfolding after_resize
  is_old true f = rw f
  is_old false f = rw f

  module _ (u : Bool) (m : ℕ) (ha : HeadAs S h) (e : m ≡ resized (resize_call u) (head_size S)) (may : limited u S ≡ false) where
    size_now : upd h.size (suc h.head) m (suc h.head) ≡ m
    size_now = upd_same h.size (suc h.head) m

    pred_now : (x : ℕ) → suc h.head ≡ suc x → upd h.size (suc h.head) m x ≡ head_size S
    pred_now x q =
        let z : x ≡ h.head = omega arith in
        upd_other h.size (suc h.head) m x (λ c. omega arith) ∙ ap h.size z ∙ ha.size≡

    all_empty : (j : ℕ) → upd h.place (suc h.head) (λ i. empty) (suc h.head) j ≡ empty
    all_empty j = ap (λ (f : ℕ → PlaceState). f j) (upd_same h.place (suc h.head) (λ i. empty))

    advanced : LaidOut (after_resize S (resize_of u)) (advance m h)
    advanced = rw (is_new u may) (record {
      head_as = record {
        size≡ = size_now ∙ e ∙ sym (length-replicate {A = Bool} (resized (resize_call u) (head_size S)) false);
        pred≡ = λ x l q. pred_now x q;
      };
      places_as = λ j t lt. rw (same_default {A = Bool} (resized (resize_call u) (head_size S)) j false) (all_empty j);
    })

  -- line 20 ends with limit, line 28 with done where it moves the head
  pub solo_end_resize : {l : Position} {z : Heap} {a : Answer} → Step h l z no_call → Solo S h l → TagsAs S.tags z
      → ((u : Bool) → l ≡ resize u at_20 → (limited u S ≡ true) × (a ≡ Limit)) → (z.head ≡ h.head) ⊎ (a ≡ Done) → SoloEnd g S l z a
  solo_end_resize (step_20_limit {b = u}) s tags must moved =
      let f = must u refl in
      record {
        laid_out = rw (is_old u f.0) s;
        tags_as = rw (is_old u f.0) tags;
        answer = rw f.0 f.1;
        steps = rw f.0 refl;
        buckets = rw f.0 refl;
      }
  solo_end_resize (step_28_done {b = u} {n = m} q) s tags must moved = record {
    laid_out = advanced u m s.1 s.3 s.2;
    tags_as = rw (is_new u s.2) tags;
    answer = rw s.2 (done moved);
    steps = refl;
    buckets = refl;
  }
    where
      done : {a : Answer} → (suc h.head ≡ h.head) ⊎ (a ≡ Done) → a ≡ Done
      done (inl e) = absurd (omega arith)
      done (inr e) = e
  solo_end_resize (step_28_lost n) s tags must moved = absurd (n s.0)
