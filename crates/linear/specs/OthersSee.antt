-- How the words and the names may change while a task waits, and that what the waiting task's record says, and what it has taken,
-- stay so. Assumes nothing.
use Rattle.std.specs.Prelude.{◌≡◌, ◌⊎◌, List, ℕ, suc, ◌+◌, ◌%◌, ◌≤◌, ◌<◌}
use Rattle.std.proofs.Common.{sym, ap, ◌∙◌, inl, inr, arith}
use Rattle.spec.specs.declared.Task.{Task}
use Rattle.spec.specs.Lists.{member}
use Rattle.spec.specs.Machine.{Machine}
use Rattle.spec.specs.Words.{link, size, place, tags}
use Rattle.spec.specs.Words as Words
use Rattle.spec.specs.Sound.{bucket_count}
use Rattle.model.specs.PlaceState.{Filled}
use Rattle.model.specs.Heap.{Heap, slot_in}
use Rattle.model.specs.HeapInvariant.{HeapInvariant, Rely, place<}
use Rattle.model.specs.Positions.{Fill, at_39, at_40, at_43, at_44, at_46, at_47, at_48, at_52, at_49, at_50, at_51, at_12, at_13, at_15, at_16, at_17}
use Rattle.model.specs.Positions.{at_18, Update, at_32, at_33, at_36, Resize, at_20, at_24, at_27, at_28, Position, no_call, lookup, update, resize}
use Rattle.spec.specs.History.{Ended}
use Rattle.model.specs.Filling.{InNode, FillFacts, SourceFrozen, source_frozen_stays}
use Rattle.model.specs.PositionFacts.{PositionFacts}
use Rattle.linear.specs.Represents.{AwayBucket, AwayNode, NewBucket, NewNode, Records}
use Rattle.linear.specs.KnownNodes.{Takes, IsBucket, IsNode, TakesFrom, nothing, bucket, node}
use Rattle.linear.specs.Matches.{update_call, resize_call, FromOne, FromTwo, FillFields, FillMatches, Matches}
use Rattle.linear.specs.Taken.{Taken}

-- from y to z, by a step of another task: known nodes and buckets stay in their records, and the words of a record that is none of
-- theirs stay, but for the bucket nb and the node nn that the stepping task itself takes or puts in place
pub record OthersSee (y z : Machine) (h g : Heap) (K J : ℕ → Type 0) (R R' : Records) (nb nn : ℕ → Type 0) : Type 0 where
  pub node≡ : (x : ℕ) → x ≤ h.head → R'.node x ≡ R.node x
  pub bucket≡ : (x j : ℕ) → Filled (h.place x j) → R'.bucket x j ≡ R.bucket x j
  pub away_bucket : (r : ℕ) → ¬ nb r → AwayBucket h K R r → AwayBucket g J R' r
  pub away_node : (r : ℕ) → ¬ nn r → AwayNode K R r → AwayNode J R' r
  pub first_word≡ : (r : ℕ) → ¬ nb r → AwayBucket h K R r → Words.changeable z.buckets r ≡ Words.changeable y.buckets r
  pub tags≡ : (r : ℕ) → r < bucket_count y → ¬ nb r → AwayBucket h K R r → tags z.buckets r ≡ tags y.buckets r
  pub size≡ : (r : ℕ) → ¬ nn r → AwayNode K R r → size z.nodes r ≡ size y.nodes r
  pub pred≡ : (r : ℕ) → ¬ nn r → AwayNode K R r → Words.pred z.nodes r ≡ Words.pred y.nodes r
  pub place≡ : (r i : ℕ) → i < 32 → ¬ nn r → AwayNode K R r → place z.nodes r i ≡ place y.nodes r i

module _ {y z : Machine} {h g : Heap} {K J : ℕ → Type 0} {R R' : Records} {nb nn : ℕ → Type 0} (sh : OthersSee y z h g K J R R' nb nn)
    (inv : HeapInvariant h) (le : Rely h g) (c : Task) where
  same_node : (x : ℕ) {l : ℕ} → x ≤ h.head → l ≡ link (R.node x) → l ≡ link (R'.node x)
  same_node x a e = rw (sh.node≡ x a) e

  same_bucket : (x j : ℕ) {l : ℕ} → Filled (h.place x j) → l ≡ link (R.bucket x j) → l ≡ link (R'.bucket x j)
  same_bucket x j p e = rw (sh.bucket≡ x j p) e

  from_one_stays : (s t i : ℕ) → t ≤ h.head → t ≡ suc s → FromOne h R s t i c → FromOne g R' s t i c
  from_one_stays s t i a q m =
      let b : s ≤ h.head = omega arith in
      rw (le.size≡ t a, le.size≡ s b) (
        m.0,
        same_bucket s (i % h.size s) (inv.past_filled s (i % h.size s) (omega arith) (place< h inv s i b)) m.1,
        m.2,
      )

  from_two_stays : (s t i : ℕ) → t ≤ h.head → i < h.size t → t ≡ suc s → FromTwo h R s t i c → FromTwo g R' s t i c
  from_two_stays s t i a b q m =
      let d : s ≤ h.head = omega arith in
      let e = m.0 in
      rw (le.size≡ t a, le.size≡ s d) (
        m.0,
        same_bucket s i (inv.past_filled s i (omega arith) (omega arith)) m.1,
        same_bucket s (i + h.size t)
            (inv.past_filled s (i + h.size t) (omega arith) (omega arith)) m.2,
      )

  fields_stay : (t i : ℕ) (l : Fill) → InNode h t i → FillFacts h t i l → FillFields h R t i l c → FillFields g R' t i l c
  fields_stay t i at_39 w o m = m
  fields_stay t i (at_40 b) w o m = m
  fields_stay t i (at_43 s) w o m = let a = w.0 in let q = o.0 in (m.0, same_node s (omega arith) m.1)
  fields_stay t i (at_44 s) w o m =
      let a = w.0 in
      let q = o.0 in
      let b : s ≤ h.head = omega arith in (
        m.0,
        same_node s b m.1,
        rw (le.size≡ s b) (same_bucket s (i % h.size s) (inv.past_filled s (i % h.size s) (omega arith) (place< h inv s i b))
            m.2),
      )
  fields_stay t i (at_46 s) w o m = let a = w.0 in let q = o.0 in same_node s (omega arith) m
  fields_stay t i (at_47 s) w o m =
      let a = w.0 in
      let b = w.1 in
      let q = o.0 in
      let e = o.1 in
      (same_node s (omega arith) m.0, same_bucket s i (inv.past_filled s i (omega arith) (omega arith)) m.1)
  fields_stay t i (at_48 s) w o m = let a = w.0 in let q = o.0 in (same_node s (omega arith) m.0, from_two_stays s t i w.0 w.1 o.0 m.1)
  fields_stay t i (at_52 s) w o m = let a = w.0 in let q = o.0 in (same_node s (omega arith) m.0, from_two_stays s t i w.0 w.1 o.0 m.1)
  fields_stay t i (at_49 s) w o m = let a = w.0 in let q = o.0 in (same_node s (omega arith) m.0, go m.1)
    where
      go : FromOne h R s t i c ⊎ FromTwo h R s t i c → FromOne g R' s t i c ⊎ FromTwo g R' s t i c
      go (inl u) = inl (from_one_stays s t i w.0 o.0 u)
      go (inr u) = inr (from_two_stays s t i w.0 w.1 o.0 u)
  fields_stay t i (at_50 s) w o m = let a = w.0 in let q = o.0 in same_node s (omega arith) m
  fields_stay t i at_51 w o m = tt

  fill_matches_stay : (call k t i : ℕ) (l : Fill) → InNode h t i → FillFacts h t i l → FillMatches h R call k t i l c → FillMatches g R' call k t i l c
  fill_matches_stay call k t i l w o m =
      record { call_fields = m.call_fields; t≡ = same_node t w.0 m.t≡; i≡ = m.i≡; fields = fields_stay t i l w o m.fields }

  pub matches_stay : (L : List Ended) (r : ℕ) (l : Position) → PositionFacts h L r l → Matches h R l c → Matches g R' l c
  matches_stay L r no_call o m = m
  matches_stay L r (lookup k at_12) o m = m
  matches_stay L r (lookup k (at_13 t)) o m = (m.0, same_node t o.0 m.1)
  matches_stay L r (lookup k (at_15 t)) o m = (m.0, same_node t o.0 m.1)
  matches_stay L r (lookup k (at_16 t)) o m = let a = o.0 in (m.0, same_node t (omega arith) m.1)
  matches_stay L r (lookup k (at_17 t)) o m = (m.0, same_node t o.0 m.1)
  matches_stay L r (lookup k (at_18 x)) o m = (m.0, rw (le.size≡ x o.0, le.key≡ k) (same_bucket x (slot_in h x k) o.1 m.1), go m.2)
    where
      go : (c.t ≡ link (R.node x)) ⊎ (c.s ≡ link (R.node x)) → (c.t ≡ link (R'.node x)) ⊎ (c.s ≡ link (R'.node x))
      go (inl e) = inl (same_node x o.0 e)
      go (inr e) = inr (same_node x o.0 e)
  matches_stay L r (update b k at_32) o m = m
  matches_stay L r (update b k (at_33 t)) o m = (m.0, same_node t o m.1, m.2)
  matches_stay L r (update b k (at_36 x)) o m =
      (m.0, same_node x o.0 m.1, rw (le.size≡ x o.0, le.key≡ k) (same_bucket x (slot_in h x k) o.1 m.2))
  matches_stay L r (update b k (Update.filling t i l)) o m = fill_matches_stay (update_call b) k t i l o.0 o.2 m
  matches_stay L r (resize b at_20) o m = m
  matches_stay L r (resize b (at_24 t)) o m = (m.0, same_node t o.0 m.1, rw (le.size≡ t o.0) m.2)
  matches_stay L r (resize b (at_27 t)) o m = (m.0, same_node t o.0 m.1, rw (le.size≡ t o.0) m.2)
  matches_stay L r (resize b (at_28 t n)) o m = (m.0, same_node t o.0 m.1)
  matches_stay L r (resize b (Resize.filling t i l)) o m = (fill_matches_stay (resize_call b) 0 t i l o.0 o.2 m.0, rw (le.size≡ t o.0.0) m.1)

  -- what the task has taken: r is none of the stepping task's own
  new_bucket_stays : (s t i r : ℕ) → t ≤ h.head → t ≡ suc s → SourceFrozen h t i s → r < bucket_count y → ¬ nb r → NewBucket y h K R s t i r
      → NewBucket z g J R' s t i r
  new_bucket_stays s t i r a q ice lt n w =
      let b : s ≤ h.head = omega arith in
      let e = sh.tags≡ r lt n w.away in
      record {
        opened = sh.first_word≡ r n w.away ∙ w.opened;
        inside =
            λ k p. ap (member k) e ∙ w.inside k (rw (le.size≡ t a, le.key≡ k) at p)
            ∙ sym (le.frozen_keeps_tags s k b (source_frozen_stays h g le t i s a b ice (g.key k) p));
        outside = λ k p. ap (member k) e ∙ w.outside k (λ u. p (rw (le.size≡ t a, le.key≡ k) u));
        away = sh.away_bucket r n w.away;
      }

  new_node_stays : (t n r : ℕ) → t ≤ h.head → ¬ nn r → NewNode y K R t n r → NewNode z J R' t n r
  new_node_stays t n r a d w = record {
    size≡ = sh.size≡ r d w.away ∙ w.size≡;
    from = sh.pred≡ r d w.away ∙ same_node t a w.from;
    places = λ i b. sh.place≡ r i b d w.away ∙ w.places i b;
    away = sh.away_node r d w.away;
  }

  pub taken_stays : (τ : Takes) → TakesFrom h τ → ((r : ℕ) → c.new_bucket ≡ link r → r < bucket_count y)
      → (IsBucket τ → (r : ℕ) → c.new_bucket ≡ link r → ¬ nb r) → (IsNode τ → (r : ℕ) → c.new_node ≡ link r → ¬ nn r)
      → Taken y h K R τ c → Taken z g J R' τ c
  taken_stays nothing o below n n' p = tt
  taken_stays (bucket s t i) o below n n' p =
      (p.0, p.1, new_bucket_stays s t i p.0 o.0 o.1.0 o.1.1 (below p.0 p.1) (n tt p.0 p.1) p.2)
  taken_stays (node t m) o below n n' p = (p.0, p.1, new_node_stays t m p.0 o (n' tt p.0 p.1) p.2)
