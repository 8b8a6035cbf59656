-- What always holds of the heap, and how it may change while a task waits. From the first follows Lemma 16 of the source: a
-- changeable bucket at a tag's place decides whether the tag is in the set, because it is the head's, or the head's place is still
-- empty. Assumes nothing.
use Rattle.std.specs.Prelude.{◌≡◌, ◌⊎◌, true, false, ℕ, suc, ◌*◌, ◌%◌, ◌≤◌, ◌<◌}
use Rattle.std.proofs.Common.{sym, ◌∙◌, inl, inr, mod-lt, arith}
use Rattle.std.proofs.Math.Decide.{ℕ_discrete}
use Rattle.laws.specs.Tests.{bool?}
use Rattle.model.specs.PlaceState.{empty, changeable, frozen, Filled, not_both, filled_changeable, filled?}
use Rattle.model.specs.Heap.{Heap, at, state_for, decider, decider_empty, decider_filled}

-- ---- the invariant

abbrev pub Ratio : ℕ → ℕ → Type 0
Ratio a b = (a ≡ 2 * b) ⊎ (b ≡ 2 * a)

pub record HeapInvariant (h : Heap) : Type 0 where
  pub sizes_positive : (x : ℕ) → x ≤ h.head → 0 < h.size x
  -- every place of a node that is no longer head has a bucket
  pub past_filled : (x i : ℕ) → x < h.head → i < h.size x → Filled (h.place x i)
  -- so has every place of a head without a predecessor
  pub unlinked_filled : h.linked ≡ false → (i : ℕ) → i < h.size h.head → Filled (h.place h.head i)
  -- no bucket of the head is frozen
  pub head_changeable : (i : ℕ) → i < h.size h.head → ¬ (h.place h.head i ≡ frozen)
  -- all buckets older than the head's predecessor are
  pub older_frozen : (x i : ℕ) → suc x < h.head → i < h.size x → h.place x i ≡ frozen
  -- and the predecessor's too, once the head has lost it
  pub unlinked_frozen : h.linked ≡ false → (x i : ℕ) → x < h.head → i < h.size x → h.place x i ≡ frozen
  -- a predecessor has twice or half the head's size
  pub linked_ratio : h.linked ≡ true → (s : ℕ) × (h.head ≡ suc s) × Ratio (h.size h.head) (h.size s)
  -- where the head has a tag's bucket, the predecessor's bucket for that tag is frozen: it was copied
  pub copied_frozen : h.linked ≡ true → (s k : ℕ) → h.head ≡ suc s → Filled (at h h.head k) → at h s k ≡ frozen

-- how the heap may change while a task waits
pub record Rely (h g : Heap) : Type 0 where
  pub head≤ : h.head ≤ g.head
  pub size≡ : (x : ℕ) → x ≤ h.head → g.size x ≡ h.size x
  pub key≡ : (k : ℕ) → g.key k ≡ h.key k
  pub filled_stays : (x i : ℕ) → x ≤ h.head → Filled (h.place x i) → Filled (g.place x i)
  pub frozen_stays : (x i : ℕ) → x ≤ h.head → h.place x i ≡ frozen → g.place x i ≡ frozen
  -- what is frozen now was filled before, and its tags are as before
  pub frozen_was_filled : (x i : ℕ) → x ≤ h.head → g.place x i ≡ frozen → Filled (h.place x i)
  pub frozen_keeps_tags : (x k : ℕ) → x ≤ h.head → state_for g x k ≡ frozen → g.has x k ≡ h.has x k
  -- a head that has lost its predecessor never has one again
  pub unlinked_stays : g.linked ≡ true → h.linked ≡ false → h.head < g.head

module _ (h : Heap) (inv : HeapInvariant h) where
  pub place< : (x k : ℕ) → x ≤ h.head → k % h.size x < h.size x
  place< x k le = mod-lt k (inv.sizes_positive x le)

  -- Lemma 16: a changeable bucket is the one that decides
  pub changeable_decides : (x k : ℕ) → x ≤ h.head → at h x k ≡ changeable → decider h k ≡ x
  changeable_decides x k le e = go (ℕ_discrete x h.head)
    where
      last : suc x ≡ h.head → (h.linked ≡ true) ⊎ (h.linked ≡ false) → (at h h.head k ≡ empty) ⊎ Filled (at h h.head k) → decider h k ≡ x
      last q (inr l) c = absurd (not_both e (inv.unlinked_frozen l x (k % h.size x) (omega arith) (place< x k le)))
      last q (inl l) (inr f) = absurd (not_both e (inv.copied_frozen l x k (sym q) f))
      last q (inl l) (inl v) = decider_empty h.head v ∙ omega arith

      old : Dec (suc x ≡ h.head) → ¬ (x ≡ h.head) → decider h k ≡ x
      old (yes q) d = last q (bool? h.linked) (filled? _)
      old (no q) d = absurd (not_both e (inv.older_frozen x (k % h.size x) (omega arith) (place< x k le)))

      go : Dec (x ≡ h.head) → decider h k ≡ x
      go (yes q) =
          let f : Filled (at h x k) = filled_changeable e in
          decider_filled h.head (rw q at f) ∙ sym q
      go (no d) = old (ℕ_discrete (suc x) h.head) d
