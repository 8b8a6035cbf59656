-- Each of the five writes keeps the heap invariant, is a change that waiting tasks expect, and does to the listed tags what the plain
-- set does: nothing, but for `put`, which puts one tag in or takes it out. A place is filled only from frozen buckets, and the head
-- loses its predecessor only when all its places are filled. Assumes nothing.
use Rattle.std.specs.Prelude.{◌≡◌, refl, ◌⊎◌, Bool, true, false, ℕ, suc, pred, ◌%◌, ◌≤◌, ◌<◌}
use Rattle.std.proofs.Common.{sym, ap, ◌∙◌, inl, inr, mod-eq_of_lt, le_refl, arith}
use Rattle.std.proofs.Math.Decide.{ℕ_discrete}
use Rattle.laws.specs.Tests.{At, hit, miss, bool?, tf}
use Rattle.model.specs.Functions.{at?, pick_at, upd, upd_at, upd_same, upd_other, upd₂, upd₂_at, upd₂_same, upd₂_other}
use Rattle.model.specs.PlaceState.{PlaceState, empty, changeable, frozen, Filled, of_changeable, of_frozen, filled_not_empty, not_both}
use Rattle.model.specs.PlaceState.{filled_changeable, filled_frozen}
use Rattle.model.specs.Heap.{Heap, at, decider_of, decider, abs, decider_empty, decider_filled, fill, freeze, put, unlink, advance, slot_in, state_for}
use Rattle.model.specs.HeapInvariant.{Ratio, HeapInvariant, Rely, place<, changeable_decides}

pub rely_refl : (h : Heap) → Rely h h
rely_refl h = record {
  head≤ = (le_refl _);
  size≡ = λ x le. refl;
  key≡ = λ k. refl;
  filled_stays = λ x i le f. f;
  frozen_stays = λ x i le e. e;
  frozen_was_filled = λ x i le e. filled_frozen e;
  frozen_keeps_tags = λ x k le e. refl;
  unlinked_stays = λ a b. absurd (tf a b);
}

-- ---- one place changes its state
module _ (st : ℕ → ℕ → PlaceState) (x i : ℕ) (v : PlaceState) (fv : Filled v) where
  pub set_filled : (y j : ℕ) → Filled (st y j) → Filled (upd₂ st x i v y j)
  set_filled y j f = elim (upd₂_at st x i v y j) [ hit p e ↦ rw e fv | miss n e ↦ rw e f ]

module _ (st : ℕ → ℕ → PlaceState) (x i : ℕ) where
  pub set_frozen : (y j : ℕ) → st y j ≡ frozen → upd₂ st x i frozen y j ≡ frozen
  set_frozen y j f = elim (upd₂_at st x i frozen y j) [ hit p e ↦ e | miss n e ↦ e ∙ f ]

  pub set_frozen⁻ : Filled (st x i) → (y j : ℕ) → Filled (upd₂ st x i frozen y j) → Filled (st y j)
  set_frozen⁻ g y j f = go (upd₂_at st x i frozen y j)
    where
      go : At ((y ≡ x) × (j ≡ i)) frozen (st y j) (upd₂ st x i frozen y j) → Filled (st y j)
      go (hit p e) = rw (p.0, p.1) g
      go (miss n e) = rw e at f

-- ---- freezing a place of a node that is past
module _ (h : Heap) (inv : HeapInvariant h) (x i : ℕ) (lt : x < h.head) (f : Filled (h.place x i)) where
  pub freeze_invariant : HeapInvariant (freeze x i h)
  freeze_invariant = record {
    sizes_positive = inv.sizes_positive;
    past_filled = λ y j a b. set_filled h.place x i frozen of_frozen y j (inv.past_filled y j a b);
    unlinked_filled = λ l j b. set_filled h.place x i frozen of_frozen h.head j (inv.unlinked_filled l j b);
    head_changeable = λ j b e. inv.head_changeable j b (sym (upd₂_other h.place x i frozen h.head j (λ p. let q = p.0 in omega arith)) ∙ e);
    older_frozen = λ y j a b. set_frozen h.place x i y j (inv.older_frozen y j a b);
    unlinked_frozen = λ l y j a b. set_frozen h.place x i y j (inv.unlinked_frozen l y j a b);
    linked_ratio = inv.linked_ratio;
    copied_frozen = λ l s k q g. set_frozen h.place x i s (k % h.size s) (inv.copied_frozen l s k q (set_frozen⁻ h.place x i f h.head _ g));
  }

  pub freeze_rely : Rely h (freeze x i h)
  freeze_rely = record {
    head≤ = (le_refl _);
    size≡ = λ y le. refl;
    key≡ = λ k. refl;
    filled_stays = λ y j le g. set_filled h.place x i frozen of_frozen y j g;
    frozen_stays = λ y j le e. set_frozen h.place x i y j e;
    frozen_was_filled = λ y j le e. set_frozen⁻ h.place x i f y j (filled_frozen e);
    frozen_keeps_tags = λ y k le e. refl;
    unlinked_stays = λ a b. absurd (tf a b);
  }

  pub freeze_abs : (k : ℕ) → abs (freeze x i h) k ≡ abs h k
  freeze_abs k = ap (λ (p : PlaceState). h.has (decider_of p h.head) k)
      (upd₂_other h.place x i frozen h.head (slot_in h h.head k) (λ p. let q = p.0 in omega arith))

-- ---- an insert or a remove in a changeable bucket
module _ (h : Heap) (inv : HeapInvariant h) (x k : ℕ) (v : Bool) (le : x ≤ h.head) (o : state_for h x k ≡ changeable) where
  pub put_invariant : HeapInvariant (put x k v h)
  put_invariant = record {
    sizes_positive = inv.sizes_positive;
    past_filled = inv.past_filled;
    unlinked_filled = inv.unlinked_filled;
    head_changeable = inv.head_changeable;
    older_frozen = inv.older_frozen;
    unlinked_frozen = inv.unlinked_frozen;
    linked_ratio = inv.linked_ratio;
    copied_frozen = inv.copied_frozen;
  }

  pub put_rely : Rely h (put x k v h)
  put_rely = record {
    head≤ = (le_refl _);
    size≡ = λ y a. refl;
    key≡ = λ k. refl;
    filled_stays = λ y j a f. f;
    frozen_stays = λ y j a e. e;
    frozen_was_filled = λ y j a e. filled_frozen e;
    frozen_keeps_tags =
        λ y j a e. upd₂_other h.has x k v y j
        (λ p. let e' : state_for h x k ≡ frozen = ap (λ n. state_for h x n) (sym p.1) ∙ ap (λ n. state_for h n j) (sym p.0) ∙ e in not_both o e');
    unlinked_stays = λ a b. absurd (tf a b);
  }

  pub put_this : abs (put x k v h) k ≡ v
  put_this = ap (λ (y : ℕ). upd₂ h.has x k v y k) (changeable_decides h inv x (h.key k) le o) ∙ upd₂_same h.has x k v

  pub put_other : (j : ℕ) → ¬ (j ≡ k) → abs (put x k v h) j ≡ abs h j
  put_other j d = upd₂_other h.has x k v (decider h (h.key j)) j (λ p. d p.1)

-- ---- the head, with every place filled, loses its predecessor
module _ (h : Heap) (inv : HeapInvariant h) (all : (i : ℕ) → i < h.size h.head → Filled (h.place h.head i)) where
  pub unlink_invariant : HeapInvariant (unlink h)
  unlink_invariant = record {
    sizes_positive = inv.sizes_positive;
    past_filled = inv.past_filled;
    unlinked_filled = λ l. all;
    head_changeable = inv.head_changeable;
    older_frozen = inv.older_frozen;
    unlinked_frozen = λ l x i lt b. now x i lt b (bool? h.linked) (ℕ_discrete (suc x) h.head);
    linked_ratio = λ l. absurd (tf l refl);
    copied_frozen = λ l. absurd (tf l refl);
  }
    where
      now : (x i : ℕ) → x < h.head → i < h.size x → (h.linked ≡ true) ⊎ (h.linked ≡ false) → Dec (suc x ≡ h.head) → h.place x i ≡ frozen
      now x i lt b (inr l) d = inv.unlinked_frozen l x i lt b
      now x i lt b (inl l) (no d) = inv.older_frozen x i (omega arith) b
      now x i lt b (inl l) (yes q) =
          rw (mod-eq_of_lt b, at) at (inv.copied_frozen l x i (sym q) (all (i % h.size h.head) (place< h inv h.head i (le_refl _))))

  pub unlink_rely : Rely h (unlink h)
  unlink_rely = record {
    head≤ = (le_refl _);
    size≡ = λ y a. refl;
    key≡ = λ k. refl;
    filled_stays = λ y j a f. f;
    frozen_stays = λ y j a e. e;
    frozen_was_filled = λ y j a e. filled_frozen e;
    frozen_keeps_tags = λ y j a e. refl;
    unlinked_stays = λ a b. absurd (tf a refl);
  }

-- ---- a new head
module _ (h : Heap) (inv : HeapInvariant h) (n : ℕ) (l : h.linked ≡ false) (pos : 0 < n) (ratio : Ratio n (h.size h.head)) where
  adv_size : (x : ℕ) → x ≤ h.head → upd h.size (suc h.head) n x ≡ h.size x
  adv_size x le = upd_other h.size (suc h.head) n x (λ p. omega arith)

  adv_st : (x : ℕ) → x ≤ h.head → upd h.place (suc h.head) (λ i. empty) x ≡ h.place x
  adv_st x le = upd_other h.place (suc h.head) (λ i. empty) x (λ p. omega arith)

  adv_top : upd h.place (suc h.head) (λ i. empty) (suc h.head) ≡ (λ i. empty)
  adv_top = upd_same h.place (suc h.head) (λ i. empty)

  adv_void : (i : ℕ) → (advance n h).place (suc h.head) i ≡ empty
  adv_void i = ap (λ (f : ℕ → PlaceState). f i) adv_top

  pub advance_invariant : HeapInvariant (advance n h)
  advance_invariant = record {
    sizes_positive = λ x le. sizes x le (upd_at h.size (suc h.head) n x);
    past_filled = λ x i lt b. rw (adv_st x (omega arith)) (filled x i (rw (adv_size x (omega arith)) at b) (ℕ_discrete x h.head) (omega arith));
    unlinked_filled = λ c. absurd (tf refl c);
    head_changeable = λ i b e. filled_not_empty (filled_frozen e) (adv_void i);
    older_frozen = λ x i lt b. rw (adv_st x (omega arith)) (inv.unlinked_frozen l x i (omega arith) (rw (adv_size x (omega arith)) at b));
    unlinked_frozen = λ c. absurd (tf refl c);
    linked_ratio = λ c. (h.head, refl, rw (adv_size h.head (le_refl _), upd_same h.size (suc h.head) n) ratio);
    copied_frozen = λ c s k q f. absurd (filled_not_empty f (adv_void _));
  }
    where
      sizes : (x : ℕ) → x ≤ suc h.head → At (x ≡ suc h.head) n (h.size x) (upd h.size (suc h.head) n x) → 0 < upd h.size (suc h.head) n x
      sizes x le (hit p e) = rw e pos
      sizes x le (miss d e) = rw e (inv.sizes_positive x (omega arith))

      filled : (x i : ℕ) → i < h.size x → Dec (x ≡ h.head) → x ≤ h.head → Filled (h.place x i)
      filled x i b (yes p) le = rw p (inv.unlinked_filled l i (rw (← p) b))
      filled x i b (no d) le = inv.past_filled x i (omega arith) b

  pub advance_rely : Rely h (advance n h)
  advance_rely = record {
    head≤ = omega arith;
    size≡ = adv_size;
    key≡ = λ k. refl;
    filled_stays = λ x i le f. rw (adv_st x le) f;
    frozen_stays = λ x i le e. rw (adv_st x le) e;
    frozen_was_filled = λ x i le e. filled_frozen (rw (adv_st x le) at e);
    frozen_keeps_tags = λ x k le e. refl;
    unlinked_stays = λ a b. (le_refl _);
  }

  pub advance_abs : (k : ℕ) → abs (advance n h) k ≡ abs h k
  advance_abs k =
      let q : pred (suc h.head) ≡ h.head = omega arith in
      ap (λ (y : ℕ). h.has y k)
      (decider_empty (suc h.head) (adv_void _) ∙ q ∙ sym (decider_filled h.head
      (inv.unlinked_filled l _ (place< h inv h.head (h.key k) (le_refl _)))))

-- ---- a place of the head is filled from the frozen buckets before it
module _ (h : Heap) (inv : HeapInvariant h) (s i : ℕ) (q : h.head ≡ suc s) (v : h.place h.head i ≡ empty)
    (ready : (k : ℕ) → k % h.size h.head ≡ i → at h s k ≡ frozen) where
  -- every state but that of the place filled
  fill_st : (y j : ℕ) → y < h.head → upd₂ h.place h.head i changeable y j ≡ h.place y j
  fill_st y j lt = upd₂_other h.place h.head i changeable y j (λ p. let e = p.0 in omega arith)

  pub fill_invariant : HeapInvariant (fill s h.head i h)
  fill_invariant = record {
    sizes_positive = inv.sizes_positive;
    past_filled = λ y j a b. rw (fill_st y j a) (inv.past_filled y j a b);
    unlinked_filled = λ l j b. set_filled h.place h.head i changeable of_changeable h.head j (inv.unlinked_filled l j b);
    head_changeable = λ j b e. soft_here j b e (upd₂_at h.place h.head i changeable h.head j);
    older_frozen = λ y j a b. rw (fill_st y j (omega arith)) (inv.older_frozen y j a b);
    unlinked_frozen = λ l y j a b. rw (fill_st y j a) (inv.unlinked_frozen l y j a b);
    linked_ratio = inv.linked_ratio;
    copied_frozen = λ l r k p f. rw (fill_st r (k % h.size r) (omega arith))
        (before l r k p f (upd₂_at h.place h.head i changeable h.head (k % h.size h.head)));
  }
    where
      soft_here : (j : ℕ) → j < h.size h.head → upd₂ h.place h.head i changeable h.head j ≡ frozen
          → At ((h.head ≡ h.head) × (j ≡ i)) changeable (h.place h.head j) (upd₂ h.place h.head i changeable h.head j) → ⊥
      soft_here j b e (hit p f) = not_both f e
      soft_here j b e (miss n f) = inv.head_changeable j b (sym f ∙ e)

      before : h.linked ≡ true → (r k : ℕ) → h.head ≡ suc r → Filled (upd₂ h.place h.head i changeable h.head (k % h.size h.head))
          → At ((h.head ≡ h.head) × (k % h.size h.head ≡ i)) changeable (at h h.head k)
          (upd₂ h.place h.head i changeable h.head (k % h.size h.head))
          → at h r k ≡ frozen
      before l r k p f (hit c e) = let rs : r ≡ s = omega arith in rw rs (ready k c.1)
      before l r k p f (miss n e) = inv.copied_frozen l r k p (rw e at f)

  pub fill_rely : Rely h (fill s h.head i h)
  fill_rely = record {
    head≤ = le_refl _;
    size≡ = λ y a. refl;
    key≡ = λ k. refl;
    filled_stays = λ y j a f. set_filled h.place h.head i changeable of_changeable y j f;
    frozen_stays = λ y j a e. old y j e (upd₂_at h.place h.head i changeable y j);
    frozen_was_filled = λ y j a e. filled_frozen (new y j e (upd₂_at h.place h.head i changeable y j));
    frozen_keeps_tags = λ y k a e. same y k e (pick_at (at? h.head i y (slot_in h h.head k)) (h.has s k) (h.has y k));
    unlinked_stays = λ a b. absurd (tf a b);
  }
    where
      old : (y j : ℕ) → h.place y j ≡ frozen → At ((y ≡ h.head) × (j ≡ i)) changeable (h.place y j) (upd₂ h.place h.head i changeable y j)
          → upd₂ h.place h.head i changeable y j ≡ frozen
      old y j e (hit p f) = absurd (filled_not_empty (filled_frozen e) (rw (p.0, p.1) v))
      old y j e (miss n f) = f ∙ e

      new : (y j : ℕ) → upd₂ h.place h.head i changeable y j ≡ frozen
          → At ((y ≡ h.head) × (j ≡ i)) changeable (h.place y j) (upd₂ h.place h.head i changeable y j) → h.place y j ≡ frozen
      new y j e (hit p f) = absurd (not_both f e)
      new y j e (miss n f) = sym f ∙ e

      same : (y k : ℕ) → upd₂ h.place h.head i changeable y (slot_in h y k) ≡ frozen
          → At ((y ≡ h.head) × (slot_in h h.head k ≡ i)) (h.has s k) (h.has y k) ((fill s h.head i h).has y k)
          → (fill s h.head i h).has y k ≡ h.has y k
      same y k e (hit p f) = absurd (not_both (rw (p.0, p.1) (upd₂_same h.place h.head i changeable)) e)
      same y k e (miss n f) = f

  fill_has : (y k : ℕ) → ¬ (slot_in h h.head k ≡ i) → (fill s h.head i h).has y k ≡ h.has y k
  fill_has y k n = elim (pick_at (at? h.head i y (slot_in h h.head k)) (h.has s k) (h.has y k)) [ hit p e ↦ absurd (n p.1) | miss m e ↦ e ]

  fill_has_here : (k : ℕ) → slot_in h h.head k ≡ i → (fill s h.head i h).has h.head k ≡ h.has s k
  fill_has_here k p =
      elim (pick_at (at? h.head i h.head (slot_in h h.head k)) (h.has s k) (h.has h.head k)) [ hit c e ↦ e | miss m e ↦ absurd (m (refl, p)) ]

  pub fill_abs : (k : ℕ) → abs (fill s h.head i h) k ≡ abs h k
  fill_abs k = go (upd₂_at h.place h.head i changeable h.head (slot_in h h.head k))
    where
      go : At ((h.head ≡ h.head) × (slot_in h h.head k ≡ i)) changeable (state_for h h.head k) (state_for (fill s h.head i h) h.head k)
          → abs (fill s h.head i h) k ≡ abs h k
      go (hit p e) =
          let new : decider (fill s h.head i h) (h.key k) ≡ h.head = decider_filled h.head (filled_changeable e) in
          let is_empty : state_for h h.head k ≡ empty = rw (p.1, state_for) v in
          let one : pred h.head ≡ s = omega arith in
          let old : decider h (h.key k) ≡ s = decider_empty h.head is_empty ∙ one in
          ap (λ (y : ℕ). (fill s h.head i h).has y k) new ∙ fill_has_here k p.1 ∙ ap (λ (y : ℕ). h.has y k) (sym old)
      go (miss n e) =
          fill_has (decider (fill s h.head i h) (h.key k)) k (λ c. n (refl, c)) ∙ ap (λ (a : PlaceState). h.has (decider_of a h.head) k) e
