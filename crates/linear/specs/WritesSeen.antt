-- For each write, what a waiting task sees of it: nothing of what its record says or of what it has taken. Assumes nothing.
use Rattle.std.specs.Prelude.{◌≡◌, refl, ◌⊎◌, Bool, List, ℕ, suc, ◌≤◌, ◌<◌}
use Rattle.std.proofs.Common.{ap, ◌∙◌, inl, inr, arith}
use Rattle.spec.specs.Machine.{Machine}
use Rattle.spec.specs.Words.{link, size, place, tags}
use Rattle.spec.specs.Words as Words
use Rattle.laws.specs.SoundFacts.{SoundFacts}
use Rattle.laws.specs.AfterWrites.{AfterHead, AfterPlace, AfterPred, AfterNode, AfterFreeze, AfterBucket}
use Rattle.model.specs.Functions.{at?, upd, upd_same, upd_other, upd₂, upd₂_same, upd₂_other}
use Rattle.model.specs.PlaceState.{PlaceState, empty, changeable, Filled, filled_not_empty}
use Rattle.model.specs.Heap.{Heap, fill, freeze, put, unlink, advance, slot_in, state_for}
use Rattle.model.specs.Writes.{set_frozen⁻}
use Rattle.linear.specs.Represents.{AwayBucket, AwayNode, Records, with_bucket, with_node}
use Rattle.linear.specs.OthersSee.{OthersSee}
use Rattle.laws.specs.Tests.{at_miss}

abbrev pub None : ℕ → Type 0
None r = ⊥

abbrev pub One : ℕ → ℕ → Type 0
One r x = x ≡ r

module _ {y : Machine} {h : Heap} {K J : ℕ → Type 0} {R : Records} (f : SoundFacts y) where
  module _ (sub : (x : ℕ) → J x → K x) where
    pub unchanged_seen : OthersSee y y h h K J R R None None
    unchanged_seen = record {
      node≡ = λ x a. refl;
      bucket≡ = λ x j a. refl;
      away_bucket = λ r n a x j k. a x j (sub x k);
      away_node = λ r n a x k. a x (sub x k);
      first_word≡ = λ r n a. refl;
      tags≡ = λ r b n a. refl;
      size≡ = λ r n a. refl;
      pred≡ = λ r n a. refl;
      place≡ = λ r i b n a. refl;
    }

    module _ {z : Machine} where
      pub freeze_seen : (x i : ℕ) → K x → i < h.size x → Filled (h.place x i) → AfterFreeze y (R.bucket x i) z
          → OthersSee y z h (freeze x i h) K J R R None None
      freeze_seen x i kx bx px a = record {
        node≡ = λ x a. refl;
        bucket≡ = λ x j a. refl;
        away_bucket = λ r n w v j k b q. w v j (sub v k) b (set_frozen⁻ h.place x i px v j q);
        away_node = λ r n a x k. a x (sub x k);
        first_word≡ = λ r n w. at_miss (w x i kx bx px) (a.changeable_at r);
        tags≡ = λ r b n w. a.tags≡ r (f.bucket r b).few;
        size≡ = λ r n w. ap (λ (u : List ℕ). size u r) a.nodes≡;
        pred≡ = λ r n w. ap (λ (u : List ℕ). Words.pred u r) a.nodes≡;
        place≡ = λ r i b n w. ap (λ (u : List ℕ). place u r i) a.nodes≡;
      }

      pub put_seen : (x k : ℕ) (v : Bool) (ks : List ℕ) → K x → slot_in h x k < h.size x → Filled (state_for h x k)
          → AfterBucket y (R.bucket x (slot_in h x k)) ks z
          → OthersSee y z h (put x k v h) K J R R None None
      put_seen x k v ks kx bx px a = record {
        node≡ = λ x a. refl;
        bucket≡ = λ x j a. refl;
        away_bucket = λ r n w v j k b q. w v j (sub v k) b q;
        away_node = λ r n a x k. a x (sub x k);
        first_word≡ = λ r n w. at_miss (w x (slot_in h x k) kx bx px) (a.changeable_at r);
        tags≡ = λ r b n w. at_miss (w x (slot_in h x k) kx bx px) (a.tags_at r (f.bucket r b).few);
        size≡ = λ r n w. ap (λ (u : List ℕ). size u r) a.nodes≡;
        pred≡ = λ r n w. ap (λ (u : List ℕ). Words.pred u r) a.nodes≡;
        place≡ = λ r i b n w. ap (λ (u : List ℕ). place u r i) a.nodes≡;
      }

      pub new_bucket_seen : (r₀ : ℕ) (ks : List ℕ) → AfterBucket y r₀ ks z → OthersSee y z h h K J R R (One r₀) None
      new_bucket_seen r₀ ks a = record {
        node≡ = λ x a. refl;
        bucket≡ = λ x j a. refl;
        away_bucket = λ r n w v j k b q. w v j (sub v k) b q;
        away_node = λ r n a x k. a x (sub x k);
        first_word≡ = λ r n w. at_miss n (a.changeable_at r);
        tags≡ = λ r b n w. at_miss n (a.tags_at r (f.bucket r b).few);
        size≡ = λ r n w. ap (λ (u : List ℕ). size u r) a.nodes≡;
        pred≡ = λ r n w. ap (λ (u : List ℕ). Words.pred u r) a.nodes≡;
        place≡ = λ r i b n w. ap (λ (u : List ℕ). place u r i) a.nodes≡;
      }

      pub new_node_seen : (r₀ m p : ℕ) → AfterNode y r₀ m p z → OthersSee y z h h K J R R None (One r₀)
      new_node_seen r₀ m p a = record {
        node≡ = λ x a. refl;
        bucket≡ = λ x j a. refl;
        away_bucket = λ r n w v j k b q. w v j (sub v k) b q;
        away_node = λ r n a x k. a x (sub x k);
        first_word≡ = λ r n w. ap (λ (u : List ℕ). Words.changeable u r) a.buckets≡;
        tags≡ = λ r b n w. ap (λ (u : List ℕ). tags u r) a.buckets≡;
        size≡ = λ r n w. at_miss n (a.size_at r);
        pred≡ = λ r n w. at_miss n (a.pred_at r);
        place≡ = λ r i b n w. at_miss n (a.place_at r i b);
      }

      pub unlink_seen : (t : ℕ) → K t → AfterPred y (R.node t) z → OthersSee y z h (unlink h) K J R R None None
      unlink_seen t kt a = record {
        node≡ = λ x a. refl;
        bucket≡ = λ x j a. refl;
        away_bucket = λ r n w v j k b q. w v j (sub v k) b q;
        away_node = λ r n a x k. a x (sub x k);
        first_word≡ = λ r n w. ap (λ (u : List ℕ). Words.changeable u r) a.buckets≡;
        tags≡ = λ r b n w. ap (λ (u : List ℕ). tags u r) a.buckets≡;
        size≡ = λ r n w. a.size≡ r;
        pred≡ = λ r n w. at_miss (w t kt) (a.pred_at r);
        place≡ = λ r i b n w. a.place≡ r i b;
      }

      pub unlink_past_seen : (t : ℕ) → K t → AfterPred y (R.node t) z → OthersSee y z h h K J R R None None
      unlink_past_seen t kt a = record {
        node≡ = λ x a. refl;
        bucket≡ = λ x j a. refl;
        away_bucket = λ r n w v j k b q. w v j (sub v k) b q;
        away_node = λ r n a x k. a x (sub x k);
        first_word≡ = λ r n w. ap (λ (u : List ℕ). Words.changeable u r) a.buckets≡;
        tags≡ = λ r b n w. ap (λ (u : List ℕ). tags u r) a.buckets≡;
        size≡ = λ r n w. a.size≡ r;
        pred≡ = λ r n w. at_miss (w t kt) (a.pred_at r);
        place≡ = λ r i b n w. a.place≡ r i b;
      }

      pub fill_seen : (s i r₀ : ℕ) → K h.head → h.place h.head i ≡ empty → AfterPlace y (R.node h.head) i (link r₀) z
          → OthersSee y z h (fill s h.head i h) K J R (with_bucket h.head i r₀ R) (One r₀) None
      fill_seen s i r₀ kh e a = record {
        node≡ = λ x a. refl;
        bucket≡ = λ x j q. upd₂_other R.bucket h.head i r₀ x j (λ c. filled_not_empty (rw (c.0, c.1) at q) e);
        away_bucket = λ r n w v j k b q. go r n w v j (sub v k) b q (at? h.head i v j);
        away_node = λ r n a x k. a x (sub x k);
        first_word≡ = λ r n w. ap (λ (u : List ℕ). Words.changeable u r) a.buckets≡;
        tags≡ = λ r b n w. ap (λ (u : List ℕ). tags u r) a.buckets≡;
        size≡ = λ r n w. a.size≡ r;
        pred≡ = λ r n w. a.pred≡ r;
        place≡ = λ r j b n w. at_miss (λ c. w h.head kh c.0) (a.place_at r j b);
      }
        where
          go : (r : ℕ) → ¬ (r ≡ r₀) → AwayBucket h K R r → (v j : ℕ) → K v → j < h.size v → Filled (upd₂ h.place h.head i changeable v j)
              → Dec ((v ≡ h.head) × (j ≡ i)) → ¬ (r ≡ upd₂ R.bucket h.head i r₀ v j)
          go r n w v j k b q (yes c) u = n (u ∙ rw (c.0, c.1) (upd₂_same R.bucket h.head i r₀))
          go r n w v j k b q (no d) u =
              w v j k b (rw (upd₂_other h.place h.head i changeable v j d) at q) (u ∙ upd₂_other R.bucket h.head i r₀ v j d)

  pub advance_seen : {z : Machine} (m r₀ : ℕ) → ((x : ℕ) → K x → x ≤ h.head) → ((x : ℕ) → J x → K x ⊎ (x ≡ suc h.head)) → AfterHead y r₀ z
      → OthersSee y z h (advance m h) K J R (with_node (suc h.head) r₀ R) None (One r₀)
  advance_seen m r₀ bound sub a = record {
    node≡ = λ x b. upd_other R.node (suc h.head) r₀ x (λ e. omega arith);
    bucket≡ = λ x j a. refl;
    away_bucket = λ r n w v j k b q. go r w v j (sub v k) b q;
    away_node = λ r n w x k. goN r n w x (sub x k);
    first_word≡ = λ r n w. ap (λ (u : List ℕ). Words.changeable u r) a.buckets≡;
    tags≡ = λ r b n w. ap (λ (u : List ℕ). tags u r) a.buckets≡;
    size≡ = λ r n w. ap (λ (u : List ℕ). size u r) a.nodes≡;
    pred≡ = λ r n w. ap (λ (u : List ℕ). Words.pred u r) a.nodes≡;
    place≡ = λ r i b n w. ap (λ (u : List ℕ). place u r i) a.nodes≡;
  }
    where
      go : (r : ℕ) → AwayBucket h K R r → (v j : ℕ) → K v ⊎ (v ≡ suc h.head) → j < (advance m h).size v → Filled ((advance m h).place v j)
          → ¬ (r ≡ R.bucket v j)
      go r w v j (inl k) b q =
          let c = bound v k in
          w v j k (rw (upd_other h.size (suc h.head) m v (λ e. omega arith)) at b)
          (rw (upd_other h.place (suc h.head) (λ i. empty) v (λ e. omega arith)) at q)
      go r w v j (inr e) b q = absurd (filled_not_empty q (rw e (ap (λ (u : ℕ → PlaceState). u j) (upd_same h.place (suc h.head) (λ i. empty)))))

      goN : (r : ℕ) → ¬ (r ≡ r₀) → AwayNode K R r → (x : ℕ) → K x ⊎ (x ≡ suc h.head) → ¬ (r ≡ upd R.node (suc h.head) r₀ x)
      goN r n w x (inl k) u = let c = bound x k in w x k (u ∙ upd_other R.node (suc h.head) r₀ x (λ e. omega arith))
      goN r n w x (inr e) u = n (u ∙ rw e (upd_same R.node (suc h.head) r₀))
