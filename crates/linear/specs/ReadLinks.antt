-- What reading through a task's link gives, where the link names the record of a known node or bucket. Assumes nothing.
use Rattle.std.specs.Prelude.{◌≡◌, refl, ℕ, ◌<◌}
use Rattle.std.proofs.Common.{sym, ◌∙◌, arith}
use Rattle.spec.specs.Lists.{member}
use Rattle.spec.specs.Machine.{Machine}
use Rattle.spec.specs.Words.{link, number}
use Rattle.spec.specs.Words as Words
use Rattle.spec.specs.Listed.{size_of, pred_of, place_of, place_for, tags_of, head_of}
use Rattle.model.specs.PlaceState.{PlaceState, empty, Filled}
use Rattle.model.specs.Heap.{Heap, state_for, slot_in}
use Rattle.model.specs.HeapInvariant.{HeapInvariant, place<}
use Rattle.model.specs.Lines.{NoPred, HasPred}
use Rattle.linear.specs.Represents.{place_word, place_word_filled, Represents, Records}

-- ---- reading through links

pub link_number : (n : ℕ) → number (link n) ≡ n
link_number n = omega arith

pub not_none : {l : ℕ} (r : ℕ) → l ≡ link r → ¬ (l ≡ 0)
not_none r e z = omega arith

pub place_word_empty : {p : PlaceState} (r : ℕ) → p ≡ empty → place_word p r ≡ 0
place_word_empty r e = rw e

module _ {y : Machine} {h : Heap} {K : ℕ → Type 0} {R : Records} (inv : HeapInvariant h) (rep : Represents y h K R) where
  pub size_at : (x : ℕ) {l : ℕ} → K x → l ≡ link (R.node x) → size_of y l ≡ h.size x
  unfolding size_of
  size_at x k e = rw (e, link_number (R.node x)) (rep.size≡ x k)

  pub place_at : (x i : ℕ) {l j : ℕ} → K x → i < h.size x → l ≡ link (R.node x) → j ≡ i → place_of y l j ≡ place_word (h.place x i) (R.bucket x i)
  unfolding place_of
  place_at x i k b e q = rw (e, q, link_number (R.node x)) (rep.place≡ x i k b)

  pub place_filled : (x i : ℕ) {l j : ℕ} → K x → i < h.size x → l ≡ link (R.node x) → j ≡ i → Filled (h.place x i) → place_of y l j ≡ link (R.bucket x i)
  place_filled x i k b e q p = place_at x i k b e q ∙ place_word_filled (R.bucket x i) p

  pub place_empty : (x i : ℕ) {l j : ℕ} → K x → i < h.size x → l ≡ link (R.node x) → j ≡ i → h.place x i ≡ empty → place_of y l j ≡ 0
  place_empty x i k b e q p = place_at x i k b e q ∙ place_word_empty (R.bucket x i) p

  pub for_at : (x k : ℕ) {l j : ℕ} → K x → l ≡ link (R.node x) → j ≡ k → place_for y l j ≡ place_word (state_for h x k) (R.bucket x (slot_in h x k))
  unfolding place_for
  for_at x k {l} {j} a e q =
      place_at x (slot_in h x k) a (place< h inv x (h.key k) (rep.known_bound x a)) e (rw (size_at x a e, q) (rep.slot≡ k (h.size x)))

  pub for_filled : (x k : ℕ) {l j : ℕ} → K x → l ≡ link (R.node x) → j ≡ k → Filled (state_for h x k) → place_for y l j ≡ link (R.bucket x (slot_in h x k))
  for_filled x k a e q p = for_at x k a e q ∙ place_word_filled (R.bucket x (slot_in h x k)) p

  pub for_empty : (x k : ℕ) {l j : ℕ} → K x → l ≡ link (R.node x) → j ≡ k → state_for h x k ≡ empty → place_for y l j ≡ 0
  for_empty x k a e q p = for_at x k a e q ∙ place_word_empty (R.bucket x (slot_in h x k)) p

  pub pred_some_at : (t s : ℕ) {l : ℕ} → HasPred h t s → l ≡ link (R.node t) → pred_of y l ≡ link (R.node s)
  unfolding pred_of
  pred_some_at t s p e = rw (e, link_number (R.node t), p.0) (rep.pred_some p.1 s (sym p.0 ∙ p.2))

  pub pred_none_at : (t : ℕ) {l : ℕ} → K t → NoPred h t → l ≡ link (R.node t) → pred_of y l ≡ 0
  unfolding pred_of
  pred_none_at t k n e = rw (e, link_number (R.node t)) (rep.pred_none t k n)

  pub tags_at : (r : ℕ) {l : ℕ} → l ≡ link r → tags_of y l ≡ Words.tags y.buckets r
  unfolding tags_of
  tags_at r e = rw (e, link_number r)

  pub has_at : (x k : ℕ) {l j : ℕ} → K x → Filled (state_for h x k) → l ≡ link (R.bucket x (slot_in h x k)) → j ≡ k → member j (tags_of y l) ≡ h.has x k
  has_at x k a p e q =
      rw (tags_at (R.bucket x (slot_in h x k)) e, q) ((rep.tags x (slot_in h x k) a (place< h inv x (h.key k) (rep.known_bound x a)) p).inside k refl)

  pub head_at : head_of y ≡ link (R.node h.head)
  unfolding head_of
  head_at = rw rep.head≡
