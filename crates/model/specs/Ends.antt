-- A step that ends an insert, remove or contains: the call can stand last in the order, since a changeable bucket decides its tag, or,
-- for a contains that read a frozen bucket, at its witness. Assumes nothing.
use Rattle.std.specs.Prelude.{◌≡◌, refl, Bool, ℕ, ◌≤◌, length}
use Rattle.std.proofs.Common.{sym, ◌∙◌, eq-eqb, ne_eqb}
use Rattle.std.proofs.Math.Path.{ap}
use Rattle.std.proofs.Math.Logic.{inl}
use Rattle.std.proofs.Math.Bool.{true, false}
use mathlib.Core.List.{List, []}
use Rattle.std.proofs.Math.Decide.{ℕ_discrete}
use Rattle.model.specs.PlaceState.{changeable, Seen, is_empty, is_changeable, is_frozen, seen, filled_not_empty}
use Rattle.model.specs.Heap.{Heap, abs, put, state_for}
use Rattle.model.specs.HeapInvariant.{HeapInvariant, Rely, changeable_decides}
use Rattle.model.specs.Writes.{rely_refl, put_invariant, put_rely, put_this, put_other}
use Rattle.spec.specs.declared.Answer.{Answer}
use Rattle.spec.specs.declared.Call.{Call}
use Rattle.spec.specs.declared.Call.TheVariants.{Insert, Remove, Contains}
use Rattle.spec.specs.Lists.{member, add_tag, remove_tag}
use Rattle.spec.specs.Plain.{insert_answer, found_answer, inserted, plain_insert, plain_remove, plain_contains, plain}
use Rattle.spec.specs.StepRefusals.{gains}
use Rattle.spec.specs.History.{Ended}
use Rattle.spec.specs.Linearizable.{after}
use Rattle.laws.specs.Ascending.{Rising, member_add, member_remove}
use Rattle.laws.specs.SameTags.{rising_same}
use Rattle.laws.specs.PlainSet.{inserted_yes, inserted_else}
use Rattle.model.specs.Orders.{Witness, after_rising}
use Rattle.model.specs.Positions.{Position}
use Rattle.model.specs.Lines.{Listed, EndStep, end_18, end_36_kept, end_36_added, end_36_removed, end_36_absent}
use Rattle.model.specs.Filling.{NewSourcesFew}
use Rattle.model.specs.PositionFacts.{PositionFacts}

-- ---- a set call ends
-- either it stands last, or it is a contains with a place of its own
pub data EndPlace (h : Heap) (L : List Ended) (r : ℕ) : Call → ℕ → Heap → Answer → Type 0 where
  at_end : {c : Call} {k : ℕ} {g : Heap} {a : Answer} → HeapInvariant g → Rely h g → (plain (after [] L) c k).answer ≡ a
      → ((j : ℕ) → member j (plain (after [] L) c k).tags ≡ abs g j) → NewSourcesFew h g → EndPlace h L r c k g a
  at_witness : {k : ℕ} {v : Bool} → Witness k r v [] L → EndPlace h L r Contains k h (found_answer v)

module _ (h : Heap) (inv : HeapInvariant h) (L : List Ended) (same : (k : ℕ) → member k (after [] L) ≡ abs h k) (r : ℕ) where
  rises : Rising (after [] L)
  rises = after_rising [] L tt

  -- a changeable bucket tells what the plain set has
  tells : (x k : ℕ) → x ≤ h.head → state_for h x k ≡ changeable → member k (after [] L) ≡ h.has x k
  tells x k le o = same k ∙ ap (λ (y : ℕ). h.has y k) (changeable_decides h inv x (h.key k) le o)

  -- the listed tags are those of the plain set
  listed_same : (l : List ℕ) → Listed h l → l ≡ after [] L
  listed_same l g = rising_same l (after [] L) g.0 rises (λ k. g.1 k ∙ sym (same k))

  -- so that line 36 and the plain set give an insert one answer
  same_answer : (x k : ℕ) (l : List ℕ) → x ≤ h.head → state_for h x k ≡ changeable → Listed h l
      → insert_answer (length (after [] L)) (member k (after [] L)) ≡ insert_answer (length l) (h.has x k)
  same_answer x k l le o g = rw (listed_same l g, tells x k le o)

  -- the plain set and the heap, when tag k has been put in or taken out
  puts : (x k : ℕ) (v : Bool) → x ≤ h.head → state_for h x k ≡ changeable → (R : List ℕ) → member k R ≡ v
      → ((j : ℕ) → ¬ (j ≡ k) → member j R ≡ member j (after [] L))
      → (j : ℕ) → member j R ≡ abs (put x k v h) j
  puts x k v le o R this other j = go (ℕ_discrete j k)
    where
      go : Dec (j ≡ k) → member j R ≡ abs (put x k v h) j
      go (yes p) = rw p (this ∙ sym (put_this h inv x k v le o))
      go (no d) = other j d ∙ same j ∙ sym (put_other h inv x k v le o j d)

  pub ended_step : {l : Position} {c : Call} {k : ℕ} {g : Heap} {a : Answer} → EndStep h l c k g a → PositionFacts h L r l → EndPlace h L r c k g a
  unfolding plain plain_insert plain_remove plain_contains
  ended_step (end_18 {k = k} {x = x}) o = go (seen (state_for h x k))
    where
      go : Seen (state_for h x k) → EndPlace h L r Contains k h (found_answer (h.has x k))
      go (is_empty e) = absurd (filled_not_empty o.1 e)
      go (is_changeable e) = at_end inv (rely_refl h) (ap found_answer (tells x k o.0 e)) same (λ s i a b f. inl (a, b, f))
      go (is_frozen e) = at_witness (o.2 e)
  ended_step (end_36_kept {k = k} {x = x} l e g n) o =
      let q = same_answer x k l o.0 e g in
      let s : inserted (insert_answer (length (after [] L)) (member k (after [] L))) k (after [] L) ≡ after [] L =
      inserted_else _ k (after [] L) (ap gains q ∙ n) in
      at_end {c = Insert} {k = k} inv (rely_refl h) q (λ j. ap (member j) s ∙ same j) (λ s i a b f. inl (a, b, f))
  ended_step (end_36_added {k = k} {x = x} l e g n) o =
      let q = same_answer x k l o.0 e g ∙ n in
      let s : inserted (insert_answer (length (after [] L)) (member k (after [] L))) k (after [] L) ≡ add_tag k (after [] L) =
      inserted_yes _ k (after [] L) q in
      at_end {c = Insert} {k = k} (put_invariant h inv x k true o.0 e) (put_rely h inv x k true o.0 e) q (λ j. ap (member j) s ∙ added j)
      (λ s i a b f. inl (a, b, f))
    where
      added : (j : ℕ) → member j (add_tag k (after [] L)) ≡ abs (put x k true h) j
      added = puts x k true o.0 e (add_tag k (after [] L)) (member_add k k (after [] L) ∙ rw (eq-eqb k k refl))
          (λ j d. member_add j k (after [] L) ∙ rw (ne_eqb j k d))
  ended_step (end_36_removed {k = k} {x = x} e i) o =
      at_end {c = Remove} {k = k} (put_invariant h inv x k false o.0 e) (put_rely h inv x k false o.0 e)
      (ap found_answer (tells x k o.0 e ∙ i)) removed
      (λ s i a b f. inl (a, b, f))
    where
      removed : (j : ℕ) → member j (remove_tag k (after [] L)) ≡ abs (put x k false h) j
      removed =
          puts x k false o.0 e (remove_tag k (after [] L)) (member_remove k k (after [] L) rises ∙ rw (eq-eqb k k refl))
          (λ j d. member_remove j k (after [] L) rises ∙ rw (ne_eqb j k d))
  ended_step (end_36_absent {k = k} {x = x} e i) o =
      at_end {c = Remove} {k = k} inv (rely_refl h) (ap found_answer absent) (λ j. go j (ℕ_discrete j k)) (λ s i a b f. inl (a, b, f))
    where
      absent : member k (after [] L) ≡ false
      absent = tells x k o.0 e ∙ i

      go : (j : ℕ) → Dec (j ≡ k) → member j (remove_tag k (after [] L)) ≡ abs h j
      go j (yes p) = rw p (member_remove k k (after [] L) rises ∙ rw (eq-eqb k k refl) (sym absent) ∙ same k)
      go j (no d) = member_remove j k (after [] L) rises ∙ rw (ne_eqb j k d) (same j)
