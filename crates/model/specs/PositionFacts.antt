-- What holds of a task at each position of its call, and that no other task's step breaks it. For a contains: if the bucket that it
-- is going to read is frozen, its order of calls has a witness for what that bucket says. Assumes nothing.
use Rattle.std.specs.Prelude.{◌≡◌, ◌⊎◌, Bool, true, false, List, [], ℕ, suc, ◌≤◌, ◌<◌, length}
use Rattle.std.proofs.Common.{ap, ◌∙◌, inl, inr, arith}
use Rattle.model.specs.PlaceState.{changeable, frozen, Filled, Seen, is_empty, is_changeable, is_frozen, seen, filled_not_empty}
use Rattle.model.specs.Heap.{Heap, abs, slot_in, state_for}
use Rattle.model.specs.HeapInvariant.{Ratio, HeapInvariant, Rely, changeable_decides}
use Rattle.spec.specs.Lists.{member}
use Rattle.spec.specs.History.{Ended}
use Rattle.spec.specs.Linearizable.{after}
use Rattle.laws.specs.Tests.{bool?}
use Rattle.laws.specs.Ascending.{Rising}
use Rattle.laws.specs.SameTags.{part_length}
use Rattle.model.specs.Orders.{Witness, witness_last}
use Rattle.model.specs.Positions.{Lookup, at_12, at_13, at_15, at_16, at_17, at_18, Update, at_32, at_33, at_36, Resize, at_20, at_24, at_27, at_28}
use Rattle.model.specs.Positions.{Position, no_call, lookup, update, resize}
use Rattle.model.specs.Lines.{NoPred}
use Rattle.model.specs.Filling.{InNode, in_node_stays, FillFacts, fill_stays}

-- ---- a contains
module _ (h : Heap) (L : List Ended) (k r : ℕ) where
  -- if the bucket of x for k is frozen, there is a place for the answer that it gives
  abbrev pub Witnessed : ℕ → Type 0
  Witnessed x = state_for h x k ≡ frozen → Witness k r (h.has x k) [] L

  abbrev pub LookupFacts : Lookup → Type 0
  LookupFacts at_12 = Unit {0}
  LookupFacts (at_13 t) = (t ≤ h.head) × Witnessed t
  LookupFacts (at_15 t) = (t ≤ h.head) × Witnessed t × ((s : ℕ) → t ≡ suc s → Witnessed s)
  LookupFacts (at_16 s) = (s < h.head) × Witnessed s
  LookupFacts (at_17 t) = (t ≤ h.head) × Filled (state_for h t k) × Witnessed t
  LookupFacts (at_18 x) = (x ≤ h.head) × Filled (state_for h x k) × Witnessed x

abbrev pub UpdateFacts : Heap → ℕ → Update → Type 0
UpdateFacts h k at_32 = Unit {0}
UpdateFacts h k (at_33 t) = t ≤ h.head
UpdateFacts h k (at_36 x) = (x ≤ h.head) × Filled (state_for h x k)
UpdateFacts h k (Update.filling t i l) = InNode h t i × (slot_in h t k ≡ i) × FillFacts h t i l

abbrev pub ResizeFacts : Heap → Resize → Type 0
ResizeFacts h at_20 = Unit {0}
ResizeFacts h (at_24 t) = (t ≤ h.head) × ((j : ℕ) → j < h.size t → Filled (h.place t j))
ResizeFacts h (at_27 t) = (t ≤ h.head) × NoPred h t
ResizeFacts h (at_28 t n) = (t ≤ h.head) × NoPred h t × (0 < n) × Ratio n (h.size t)
ResizeFacts h (Resize.filling t i l) = InNode h t i × ((j : ℕ) → j < i → Filled (h.place t j)) × FillFacts h t i l

-- r: when the call started
abbrev pub PositionFacts : Heap → List Ended → ℕ → Position → Type 0
PositionFacts h L r no_call = Unit {0}
PositionFacts h L r (lookup k l) = LookupFacts h L k r l
PositionFacts h L r (update b k l) = UpdateFacts h k l
PositionFacts h L r (resize b l) = ResizeFacts h l

-- ---- no step breaks what holds of a waiting task
module _ (h g : Heap) (inv : HeapInvariant h) (le : Rely h g) (L M : List Ended) (same : (k : ℕ) → member k (after [] L) ≡ abs h k)
    (r : ℕ) (grows : (k : ℕ) (v : Bool) → Witness k r v [] L → Witness k r v [] M) where
  at_filled : (x k : ℕ) → x ≤ h.head → Filled (state_for h x k) → Filled (state_for g x k)
  at_filled x k a f = rw (le.size≡ x a, le.key≡ k, state_for, slot_in) (le.filled_stays x (slot_in h x k) a f)

  witnessed_stays : (k x : ℕ) → x ≤ h.head → Witnessed h L k r x → Witnessed g M k r x
  witnessed_stays k x a u e = rw (le.frozen_keeps_tags x k a e) (grows k (h.has x k) (go (seen (state_for h x k))))
    where
      was : Filled (state_for h x k)
      was = le.frozen_was_filled x (slot_in h x k) a (rw (le.size≡ x a, le.key≡ k, state_for, slot_in) at e)

      go : Seen (state_for h x k) → Witness k r (h.has x k) [] L
      go (is_empty v) = absurd (filled_not_empty was v)
      go (is_frozen f) = u f
      go (is_changeable o) = witness_last k r (h.has x k) [] L (same k ∙ ap (λ (y : ℕ). h.has y k) (changeable_decides h inv x (h.key k) a o))

  no_pred_stays : (t : ℕ) → t ≤ h.head → NoPred h t → NoPred g t
  no_pred_stays t a n q = go (bool? g.linked)
    where
      go : (g.linked ≡ true) ⊎ (g.linked ≡ false) → g.linked ≡ false
      go (inr f) = f
      go (inl f) =
          let b = le.head≤ in
          let c : t ≡ h.head = omega arith in
          let d = le.unlinked_stays f (n c) in
          absurd (omega arith)

  lookup_stays : (k : ℕ) (l : Lookup) → LookupFacts h L k r l → LookupFacts g M k r l
  lookup_stays k at_12 o = tt
  lookup_stays k (at_13 t) o = let b = le.head≤ in let a = o.0 in (omega arith, witnessed_stays k t a o.1)
  lookup_stays k (at_15 t) o =
      let b = le.head≤ in let a = o.0 in (omega arith, witnessed_stays k t a o.1, λ s q. witnessed_stays k s (omega arith) (o.2 s q))
  lookup_stays k (at_16 s) o = let b = le.head≤ in let a = o.0 in (omega arith, witnessed_stays k s (omega arith) o.1)
  lookup_stays k (at_17 t) o = let b = le.head≤ in let a = o.0 in (omega arith, at_filled t k a o.1, witnessed_stays k t a o.2)
  lookup_stays k (at_18 t) o = let b = le.head≤ in let a = o.0 in (omega arith, at_filled t k a o.1, witnessed_stays k t a o.2)

  update_stays : (k : ℕ) (l : Update) → UpdateFacts h k l → UpdateFacts g k l
  update_stays k at_32 o = tt
  update_stays k (at_33 t) o = let b = le.head≤ in omega arith
  update_stays k (at_36 x) o = let b = le.head≤ in let a = o.0 in (omega arith, at_filled x k a o.1)
  update_stays k (Update.filling t i l) o =
      (in_node_stays h g le t i o.0, rw (le.size≡ t o.0.0, le.key≡ k) o.1, fill_stays h g le t i l o.0 o.2)

  resize_stays : (l : Resize) → ResizeFacts h l → ResizeFacts g l
  resize_stays at_20 o = tt
  resize_stays (at_24 t) o = let b = le.head≤ in let a = o.0 in (omega arith, λ j c. le.filled_stays t j a (o.1 j (rw (le.size≡ t a) at c)))
  resize_stays (at_27 t) o = let b = le.head≤ in let a = o.0 in (omega arith, no_pred_stays t a o.1)
  resize_stays (at_28 t n) o = let b = le.head≤ in let a = o.0 in (omega arith, no_pred_stays t a o.1, o.2, rw (le.size≡ t a) o.3)
  resize_stays (Resize.filling t i l) o =
      (in_node_stays h g le t i o.0, λ j c. le.filled_stays t j o.0.0 (o.1 j c), fill_stays h g le t i l o.0 o.2)

  pub facts_stay : (l : Position) → PositionFacts h L r l → PositionFacts g M r l
  facts_stay no_call o = tt
  facts_stay (lookup k l) o = lookup_stays k l o
  facts_stay (update b k l) o = update_stays k l o
  facts_stay (resize b l) o = resize_stays l o

-- a changeable bucket has no more tags than are listed: what line 36 needs for room
pub bucket_few : (h : Heap) → HeapInvariant h → (x i : ℕ) → x ≤ h.head → h.place x i ≡ changeable → (l m : List ℕ) → Rising l
    → ((k : ℕ) → member k l ≡ true → (slot_in h x k ≡ i) × (h.has x k ≡ true))
    → Rising m → ((k : ℕ) → member k m ≡ abs h k) → length l ≤ length m
bucket_few h inv x i le e l m d f d' g = part_length l m d d' (λ k a. g k ∙ here k (f k a))
  where
    here : (k : ℕ) → (slot_in h x k ≡ i) × (h.has x k ≡ true) → abs h k ≡ true
    here k c =
        let o : state_for h x k ≡ changeable = rw (c.0, state_for) e in
        ap (λ (y : ℕ). h.has y k) (changeable_decides h inv x (h.key k) le o) ∙ c.1
