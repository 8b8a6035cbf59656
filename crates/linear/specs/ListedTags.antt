-- A tag is in the set by the words exactly if it is in the model's set; so the listed tags are the model's. Assumes nothing.
use Rattle.std.specs.Prelude.{◌≡◌, refl, ◌⊎◌, ℕ, suc, pred, ◌<◌}
use Rattle.std.proofs.Common.{sym, ap, ◌∙◌, inl, inr, le_refl, arith}
use Rattle.spec.specs.Machine.{Machine}
use Rattle.spec.specs.Words.{link}
use Rattle.spec.specs.Listed.{head_of, in_bucket, in_set, listed}
use Rattle.laws.specs.SoundFacts.{SoundFacts}
use Rattle.laws.specs.Links.{true_filled}
use Rattle.laws.specs.Listing.{listed_rising, listed_member}
use Rattle.model.specs.PlaceState.{empty, Filled, filled?}
use Rattle.model.specs.Heap.{Heap, abs, decider_empty, decider_filled, state_for, slot_in}
use Rattle.model.specs.HeapInvariant.{HeapInvariant, place<}
use Rattle.model.specs.Lines.{Listed}
use Rattle.model.specs.FillSteps.{empty_is_head}
use Rattle.linear.specs.Represents.{Represents, Records}
use Rattle.linear.specs.ReadLinks.{not_none, for_filled, for_empty, pred_some_at, has_at, head_at}

module _ {y : Machine} {h : Heap} {K : ℕ → Type 0} {R : Records} (inv : HeapInvariant h) (rep : Represents y h K R) where
  pub in_set_abs : (k : ℕ) → in_set y k ≡ abs h k
  unfolding in_set in_bucket
  in_set_abs k = go (filled? (state_for h h.head k))
    where
      hd : head_of y ≡ link (R.node h.head)
      hd = head_at inv rep

      go : (state_for h h.head k ≡ empty) ⊎ Filled (state_for h h.head k) → in_set y k ≡ abs h k
      go (inr f) =
          let b = for_filled inv rep h.head k rep.head_known hd refl f in
          rw (true_filled _ (not_none _ b)) (has_at inv rep h.head k rep.head_known f b refl
          ∙ sym (ap (λ (x : ℕ). h.has x k) (decider_filled h.head f)))
      go (inl e) =
          let l = (empty_is_head h inv h.head (slot_in h h.head k) (le_refl _, place< h inv h.head (h.key k) (le_refl _)) e).1 in
          let c = inv.linked_ratio l in
          let s = c.0 in
          let q : h.head ≡ suc s = c.1 in
          let one : pred h.head ≡ s = omega arith in
          let lt : s < h.head = omega arith in
          let ks = rep.pred_known l s q in
          let f = inv.past_filled s (slot_in h s k) lt (place< h inv s (h.key k) (omega arith)) in
          let b = for_empty inv rep h.head k rep.head_known hd refl e in
          let p = pred_some_at inv rep h.head s (refl, l, q) hd in
          let d = for_filled inv rep s k ks p refl f in
          rw (b, true_filled _ (not_none _ p), true_filled _ (not_none _ d))
          (has_at inv rep s k ks f d refl ∙ sym (ap (λ (x : ℕ). h.has x k) (decider_empty h.head e ∙ one)))

  pub the_list : SoundFacts y → Listed h (listed y)
  the_list f = (listed_rising y, λ k. listed_member y f k ∙ in_set_abs k)
