-- What holds of a task that fills place i of node t from t's predecessor s: its buckets that the place is made of are frozen one
-- after the other, and from line 49 on all of them are, and together have at most 64 tags. No other task's step changes that: frozen
-- buckets stay frozen and keep their tags. Assumes nothing.
use Rattle.std.specs.Prelude.{◌≡◌, ◌⊎◌, true, List, ℕ, suc, ◌*◌, ◌%◌, ◌≤◌, ◌<◌, length}
use Rattle.std.proofs.Common.{sym, ◌∙◌, arith}
use Rattle.model.specs.PlaceState.{frozen, Filled}
use Rattle.model.specs.Heap.{Heap, at, abs, slot_in}
use Rattle.model.specs.HeapInvariant.{Rely}
use Rattle.spec.specs.Lists.{member}
use Rattle.laws.specs.Ascending.{Rising}
use Rattle.model.specs.Positions.{Fill, at_39, at_40, at_43, at_44, at_46, at_47, at_48, at_52, at_49, at_50, at_51}

-- ---- no more than 64 tags
-- listed; in s for place i of t
abbrev pub ListedFew : Heap → Type 0
ListedFew h = (l : List ℕ) → Rising l → ((k : ℕ) → member k l ≡ true → abs h k ≡ true) → length l ≤ 64

abbrev pub SourceFew : Heap → ℕ → ℕ → ℕ → Type 0
SourceFew h t i s = (l : List ℕ) → Rising l → ((k : ℕ) → member k l ≡ true → (slot_in h t k ≡ i) × (h.has s k ≡ true)) → length l ≤ 64

-- a place that was filled was filled with no more than 64
abbrev pub SourcesFew : Heap → Type 0
SourcesFew h = (s i : ℕ) → suc s ≤ h.head → i < h.size (suc s) → Filled (h.place (suc s) i) → SourceFew h (suc s) i s

-- what is filled in g was so in h, or it is with no more than 64
abbrev pub NewSourcesFew : Heap → Heap → Type 0
NewSourcesFew h g = (s i : ℕ) → suc s ≤ g.head → i < g.size (suc s) → Filled (g.place (suc s) i)
    → ((suc s ≤ h.head) × (i < h.size (suc s)) × Filled (h.place (suc s) i)) ⊎ SourceFew g (suc s) i s

-- ---- a task that fills place i of t
abbrev pub SourceFrozen : Heap → ℕ → ℕ → ℕ → Type 0
SourceFrozen h t i s = (k : ℕ) → k % h.size t ≡ i → at h s k ≡ frozen

abbrev pub Ready : Heap → ℕ → ℕ → ℕ → Type 0
Ready h t i s = (t ≡ suc s) × SourceFrozen h t i s × SourceFew h t i s

abbrev pub FillFacts : Heap → ℕ → ℕ → Fill → Type 0
FillFacts h t i at_39 = Unit {0}
FillFacts h t i (at_40 b) = b ≡ true → Filled (h.place t i)
FillFacts h t i (at_43 s) = (t ≡ suc s) × (h.size t ≡ 2 * h.size s)
FillFacts h t i (at_44 s) = (t ≡ suc s) × (h.size t ≡ 2 * h.size s)
FillFacts h t i (at_46 s) = (t ≡ suc s) × (h.size s ≡ 2 * h.size t)
FillFacts h t i (at_47 s) = (t ≡ suc s) × (h.size s ≡ 2 * h.size t)
FillFacts h t i (at_48 s) = (t ≡ suc s) × (h.size s ≡ 2 * h.size t)
FillFacts h t i (at_52 s) = (t ≡ suc s) × (h.size s ≡ 2 * h.size t) × (h.place s i ≡ frozen)
FillFacts h t i (at_49 s) = Ready h t i s
FillFacts h t i (at_50 s) = Ready h t i s
FillFacts h t i at_51 = Filled (h.place t i)

abbrev pub InNode : Heap → ℕ → ℕ → Type 0
InNode h t i = (t ≤ h.head) × (i < h.size t)

module _ (h g : Heap) (le : Rely h g) where
  pub in_node_stays : (t i : ℕ) → InNode h t i → InNode g t i
  in_node_stays t i w =
      let a = le.head≤ in
      let b = le.size≡ t w.0 in
      let c = w.0 in
      let d = w.1 in
      (omega arith, rw b d)

  pub source_frozen_stays : (t i s : ℕ) → t ≤ h.head → s ≤ h.head → SourceFrozen h t i s → SourceFrozen g t i s
  source_frozen_stays t i s w lt r k e = rw (le.size≡ s lt, at) (le.frozen_stays s (k % h.size s) lt (r k (rw (le.size≡ t w) at e)))

  pub source_few_stays : (t i s : ℕ) → t ≤ h.head → s ≤ h.head → SourceFrozen h t i s → SourceFew h t i s → SourceFew g t i s
  source_few_stays t i s w lt r u l d f =
      u l d (λ k m. let c = f k m in (
        rw (le.size≡ t w, le.key≡ k) at c.0,
        sym (le.frozen_keeps_tags s k lt (source_frozen_stays t i s w lt r (g.key k) c.0)) ∙ c.1,
      ))

  ready_stays : (t i s : ℕ) → t ≤ h.head → Ready h t i s → Ready g t i s
  ready_stays t i s w r =
      let q = r.0 in
      let lt : s ≤ h.head = omega arith in
      (r.0, source_frozen_stays t i s w lt r.1, source_few_stays t i s w lt r.1 r.2)

  pub fill_stays : (t i : ℕ) (l : Fill) → InNode h t i → FillFacts h t i l → FillFacts g t i l
  fill_stays t i at_39 w o = tt
  fill_stays t i (at_40 b) w o = λ e. le.filled_stays t i w.0 (o e)
  fill_stays t i (at_43 s) w o = let q = o.0 in let a = w.0 in (o.0, rw (le.size≡ t a, le.size≡ s (omega arith)) o.1)
  fill_stays t i (at_44 s) w o = let q = o.0 in let a = w.0 in (o.0, rw (le.size≡ t a, le.size≡ s (omega arith)) o.1)
  fill_stays t i (at_46 s) w o = let q = o.0 in let a = w.0 in (o.0, rw (le.size≡ t a, le.size≡ s (omega arith)) o.1)
  fill_stays t i (at_47 s) w o = let q = o.0 in let a = w.0 in (o.0, rw (le.size≡ t a, le.size≡ s (omega arith)) o.1)
  fill_stays t i (at_48 s) w o = let q = o.0 in let a = w.0 in (o.0, rw (le.size≡ t a, le.size≡ s (omega arith)) o.1)
  fill_stays t i (at_52 s) w o =
      let q = o.0 in let a = w.0 in (o.0, rw (le.size≡ t a, le.size≡ s (omega arith)) o.1, le.frozen_stays s i (omega arith) o.2)
  fill_stays t i (at_49 s) w o = ready_stays t i s w.0 o
  fill_stays t i (at_50 s) w o = ready_stays t i s w.0 o
  fill_stays t i at_51 w o = le.filled_stays t i w.0 o
