-- The words go on representing the heap when line 36, 44, 48, 49, 50 or 52 writes: the record written is that of the place that
-- changes, or one that no known place has. Assumes nothing.
use Rattle.std.specs.Prelude.{◌≡◌, refl, Bool, false, List, ℕ, suc, ◌<◌}
use Rattle.std.proofs.Common.{sym, ap, ◌∙◌, arith}
use Rattle.std.proofs.Math.Decide.{ℕ_discrete}
use Rattle.spec.specs.Lists.{member}
use Rattle.spec.specs.Machine.{Machine}
use Rattle.spec.specs.Words.{link, size, place, tags}
use Rattle.spec.specs.Words as Words
use Rattle.laws.specs.Tests.{at_miss, at_hit}
use Rattle.laws.specs.SoundFacts.{SoundFacts}
use Rattle.laws.specs.AfterWrites.{AfterPlace, AfterFreeze, AfterBucket}
use Rattle.model.specs.Functions.{at?, pick_at, upd₂, upd₂_same, upd₂_other}
use Rattle.model.specs.PlaceState.{empty, changeable, frozen, Filled, of_changeable}
use Rattle.model.specs.Heap.{Heap, fill, freeze, put, slot_in, state_for}
use Rattle.model.specs.Writes.{set_frozen⁻}
use Rattle.linear.specs.Represents.{Records, Represents, AwayBucket, place_word, record_has, NewBucket, bucket_in_pool, place_word_filled, first_word}
use Rattle.linear.specs.Represents.{with_bucket, HoldsTags, size_bound}

-- ---- writes to the bucket pool, and a place filled

module _ {y z : Machine} {h : Heap} {K : ℕ → Type 0} {R : Records} (f : SoundFacts y) (rep : Represents y h K R) where
  -- 49: a bucket record that no known place has is written anew
  pub represents_49 : (r : ℕ) (ks : List ℕ) → AfterBucket y r ks z → AwayBucket h K R r → Represents z h K R
  represents_49 r ks a away = record {
    head≡ = a.head≡ ∙ rep.head≡;
    head_known = rep.head_known;
    pred_known = rep.pred_known;
    known_bound = rep.known_bound;
    node_in_pool = λ x k. rw a.same.H≡ (rep.node_in_pool x k);
    slot≡ = λ k n. rw a.same.config≡ (rep.slot≡ k n);
    size≡ = rw a.nodes≡ rep.size≡;
    pred_some = rw a.nodes≡ rep.pred_some;
    pred_none = rw a.nodes≡ rep.pred_none;
    place≡ = rw a.nodes≡ rep.place≡;
    first_word≡ = λ x i k b p. at_miss (λ e. away x i k b p (sym e)) (a.changeable_at (R.bucket x i)) ∙ rep.first_word≡ x i k b p;
    tags = λ x i k b p.
        let e = at_miss (λ e. away x i k b p (sym e)) (a.tags_at (R.bucket x i) (f.bucket _ (bucket_in_pool f rep x i k b p)).few) in
        let t = rep.tags x i k b p in
        record { inside = λ c q. ap (member c) e ∙ t.inside c q; outside = λ c q. ap (member c) e ∙ t.outside c q };
    node_injective = rep.node_injective;
    bucket_injective = rep.bucket_injective;
  }

  -- 44, 48, 52
  pub represents_44 : (x i : ℕ) → K x → i < h.size x → Filled (h.place x i) → AfterFreeze y (R.bucket x i) z → Represents z (freeze x i h) K R
  represents_44 x i kx bx px a = record {
    head≡ = ap (λ s. s.head) a.state≡ ∙ rep.head≡;
    head_known = rep.head_known;
    pred_known = rep.pred_known;
    known_bound = rep.known_bound;
    node_in_pool = λ x k. rw a.same.H≡ (rep.node_in_pool x k);
    slot≡ = λ k n. rw a.same.config≡ (rep.slot≡ k n);
    size≡ = rw a.nodes≡ rep.size≡;
    pred_some = rw a.nodes≡ rep.pred_some;
    pred_none = rw a.nodes≡ rep.pred_none;
    place≡ = λ y j k b. rw a.nodes≡ (rep.place≡ y j k b ∙ place' y j (at? x i y j));
    first_word≡ = λ y j k b p. mark' y j k b (set_frozen⁻ h.place x i px y j p) (at? x i y j);
    tags = λ y j k b p. tags' y j k b (set_frozen⁻ h.place x i px y j p);
    node_injective = rep.node_injective;
    bucket_injective =
        λ y j z l k b p k' b' p'. rep.bucket_injective y j z l k b (set_frozen⁻ h.place x i px y j p) k' b' (set_frozen⁻ h.place x i px z l p');
  }
    where
      place' : (y j : ℕ) → Dec ((y ≡ x) × (j ≡ i)) → place_word (h.place y j) (R.bucket y j) ≡ place_word (upd₂ h.place x i frozen y j) (R.bucket y j)
      place' y j (yes c) = rw (c.0, c.1) (rw (upd₂_same h.place x i frozen) (place_word_filled (R.bucket x i) px))
      place' y j (no n) = rw (upd₂_other h.place x i frozen y j n)

      mark' : (w j : ℕ) → K w → j < h.size w → Filled (h.place w j) → Dec ((w ≡ x) × (j ≡ i))
          → Words.changeable z.buckets (R.bucket w j) ≡ first_word (upd₂ h.place x i frozen w j)
      mark' w j k b p (yes c) = rw (c.0, c.1) (at_hit refl (a.changeable_at (R.bucket x i)) ∙ rw (upd₂_same h.place x i frozen))
      mark' w j k b p (no n) =
          rw (upd₂_other h.place x i frozen w j n)
          (at_miss (λ e. n (rep.bucket_injective w j x i k b p kx bx px e)) (a.changeable_at (R.bucket w j)) ∙ rep.first_word≡ w j k b p)

      tags' : (w j : ℕ) → K w → j < h.size w → Filled (h.place w j) → HoldsTags z (freeze x i h) w j (R.bucket w j)
      tags' w j k b p =
          let e = a.tags≡ (R.bucket w j) (f.bucket _ (bucket_in_pool f rep w j k b p)).few in
          let t = rep.tags w j k b p in
          record { inside = λ c q. ap (member c) e ∙ t.inside c q; outside = λ c q. ap (member c) e ∙ t.outside c q }

  -- 36: one tag of a changeable bucket
  pub represents_36 : (x k : ℕ) (v : Bool) (ks : List ℕ) → K x → slot_in h x k < h.size x → state_for h x k ≡ changeable
      → ((j : ℕ) → ¬ (j ≡ k) → member j ks ≡ record_has y (R.bucket x (slot_in h x k)) j) → member k ks ≡ v
      → AfterBucket y (R.bucket x (slot_in h x k)) ks z → Represents z (put x k v h) K R
  represents_36 x k v ks kx bx ox oth this a = record {
    head≡ = a.head≡ ∙ rep.head≡;
    head_known = rep.head_known;
    pred_known = rep.pred_known;
    known_bound = rep.known_bound;
    node_in_pool = λ x k. rw a.same.H≡ (rep.node_in_pool x k);
    slot≡ = λ k n. rw a.same.config≡ (rep.slot≡ k n);
    size≡ = rw a.nodes≡ rep.size≡;
    pred_some = rw a.nodes≡ rep.pred_some;
    pred_none = rw a.nodes≡ rep.pred_none;
    place≡ = rw a.nodes≡ rep.place≡;
    first_word≡ = λ w j c b p. mark' w j c b p (at? x (slot_in h x k) w j);
    tags = λ w j c b p. record {
      inside = λ d e. inside' w j c b p d e (at? x (slot_in h x k) w j);
      outside = λ d e. outside' w j c b p d e (at? x (slot_in h x k) w j);
    };
    node_injective = rep.node_injective;
    bucket_injective = rep.bucket_injective;
  }
    where
      px : Filled (state_for h x k)
      px = rw ox of_changeable

      mark' : (w j : ℕ) → K w → j < h.size w → Filled (h.place w j) → Dec ((w ≡ x) × (j ≡ slot_in h x k))
          → Words.changeable z.buckets (R.bucket w j) ≡ first_word (h.place w j)
      mark' w j c b p (yes e) = rw (e.0, e.1) (at_hit refl (a.changeable_at (R.bucket x (slot_in h x k))) ∙ rw ox)
      mark' w j c b p (no n) =
          at_miss (λ e. n (rep.bucket_injective w j x (slot_in h x k) c b p kx bx px e)) (a.changeable_at (R.bucket w j)) ∙ rep.first_word≡ w j c b p

      tags_other : (w j : ℕ) → K w → j < h.size w → Filled (h.place w j) → ¬ ((w ≡ x) × (j ≡ slot_in h x k))
          → tags z.buckets (R.bucket w j) ≡ tags y.buckets (R.bucket w j)
      tags_other w j c b p n =
          at_miss (λ e. n (rep.bucket_injective w j x (slot_in h x k) c b p kx bx px e))
          (a.tags_at (R.bucket w j) (f.bucket _ (bucket_in_pool f rep w j c b p)).few)

      here : (d : ℕ) → slot_in h x d ≡ slot_in h x k → Dec (d ≡ k) → record_has z (R.bucket x (slot_in h x k)) d ≡ upd₂ h.has x k v x d
      here d e (yes q) = ap (member d) a.tags_same ∙ rw q (this ∙ sym (upd₂_same h.has x k v))
      here d e (no n) =
          ap (member d) a.tags_same ∙ oth d n ∙ (rep.tags x (slot_in h x k) kx bx px).inside d e ∙ sym (upd₂_other h.has x k v x d (λ c. n c.1))

      inside' : (w j : ℕ) → K w → j < h.size w → Filled (h.place w j) → (d : ℕ) → slot_in h w d ≡ j → Dec ((w ≡ x) × (j ≡ slot_in h x k))
          → record_has z (R.bucket w j) d ≡ upd₂ h.has x k v w d
      inside' w j c b p d e (yes q) = rw (q.0, q.1) (here d (rw (q.0, q.1) at e) (ℕ_discrete d k))
      inside' w j c b p d e (no n) =
          ap (member d) (tags_other w j c b p n) ∙ (rep.tags w j c b p).inside d e
          ∙ sym (upd₂_other h.has x k v w d (λ u. n (u.0, sym e ∙ ap (λ (a : ℕ). slot_in h w a) u.1 ∙ ap (λ (a : ℕ). slot_in h a k) u.0)))

      outside' : (w j : ℕ) → K w → j < h.size w → Filled (h.place w j) → (d : ℕ) → ¬ (slot_in h w d ≡ j) → Dec ((w ≡ x) × (j ≡ slot_in h x k))
          → record_has z (R.bucket w j) d ≡ false
      outside' w j c b p d e (yes q) =
          let e' : ¬ (slot_in h x d ≡ slot_in h x k) = λ u. e (rw (q.0, q.1) u) in
          rw (q.0, q.1) (ap (member d) a.tags_same ∙ oth d (λ u. e' (ap (λ (a : ℕ). slot_in h x a) u))
          ∙ (rep.tags x (slot_in h x k) kx bx px).outside d e')
      outside' w j c b p d e (no n) = ap (member d) (tags_other w j c b p n) ∙ (rep.tags w j c b p).outside d e

  -- 50
  pub represents_50 : (s i r : ℕ) → i < h.size h.head → h.head ≡ suc s → h.place h.head i ≡ empty → NewBucket y h K R s h.head i r
      → AfterPlace y (R.node h.head) i (link r) z → Represents z (fill s h.head i h) K (with_bucket h.head i r R)
  represents_50 s i r bi q v new a = record {
    head≡ = ap (λ s. s.head) a.state≡ ∙ rep.head≡;
    head_known = rep.head_known;
    pred_known = rep.pred_known;
    known_bound = rep.known_bound;
    node_in_pool = λ x k. rw a.same.H≡ (rep.node_in_pool x k);
    slot≡ = λ k n. rw a.same.config≡ (rep.slot≡ k n);
    size≡ = λ x k. a.size≡ (R.node x) ∙ rep.size≡ x k;
    pred_some = λ l s q. a.pred≡ (R.node h.head) ∙ rep.pred_some l s q;
    pred_none = λ x k n. a.pred≡ (R.node x) ∙ rep.pred_none x k n;
    place≡ = λ y j k b. place' y j k b (at? h.head i y j);
    first_word≡ = λ y j k b p. open' y j k b p (at? h.head i y j);
    tags = λ y j k b p. tags' y j k b p (at? h.head i y j);
    node_injective = rep.node_injective;
    bucket_injective = λ y j z l k b p k' b' p' e. inj y j z l k b p k' b' p' e (at? h.head i y j) (at? h.head i z l);
  }
    where
      old : (y j : ℕ) → ¬ ((y ≡ h.head) × (j ≡ i)) → Filled (upd₂ h.place h.head i changeable y j) → Filled (h.place y j)
      old y j n p = rw (upd₂_other h.place h.head i changeable y j n) at p

      place' : (w j : ℕ) → K w → j < h.size w → Dec ((w ≡ h.head) × (j ≡ i))
          → place z.nodes (R.node w) j ≡ place_word (upd₂ h.place h.head i changeable w j) (upd₂ R.bucket h.head i r w j)
      place' w j k b (yes c) =
          let m = size_bound f rep w k in
          rw (c.0, c.1) (at_hit (refl, refl)
          (a.place_at (R.node h.head) i (let d = c.0 in let e = c.1 in omega (arith, size_bound f rep h.head rep.head_known))) ∙ rw
          (upd₂_same h.place h.head i changeable, upd₂_same R.bucket h.head i r))
      place' w j k b (no n) =
          let m = size_bound f rep w k in
          rw (upd₂_other h.place h.head i changeable w j n, upd₂_other R.bucket h.head i r w j n)
          (at_miss (λ c. n (rep.node_injective w h.head k rep.head_known c.0, c.1)) (a.place_at (R.node w) j (omega arith)) ∙ rep.place≡ w j k b)

      open' : (w j : ℕ) → K w → j < h.size w → Filled (upd₂ h.place h.head i changeable w j) → Dec ((w ≡ h.head) × (j ≡ i))
          → Words.changeable z.buckets (upd₂ R.bucket h.head i r w j) ≡ first_word (upd₂ h.place h.head i changeable w j)
      open' w j k b p (yes c) =
          rw (a.buckets≡, c.0, c.1) (rw (upd₂_same h.place h.head i changeable, upd₂_same R.bucket h.head i r) new.opened)
      open' w j k b p (no n) =
          rw (a.buckets≡, upd₂_other h.place h.head i changeable w j n, upd₂_other R.bucket h.head i r w j n)
          (rep.first_word≡ w j k b (old w j n p))

      has' : (w k : ℕ) → ¬ ((w ≡ h.head) × (slot_in h h.head k ≡ i)) → (fill s h.head i h).has w k ≡ h.has w k
      has' w k n = at_miss n (pick_at (at? h.head i w (slot_in h h.head k)) (h.has s k) (h.has w k))

      has'' : (k : ℕ) → slot_in h h.head k ≡ i → (fill s h.head i h).has h.head k ≡ h.has s k
      has'' k p = at_hit (refl, p) (pick_at (at? h.head i h.head (slot_in h h.head k)) (h.has s k) (h.has h.head k))

      here : HoldsTags z (fill s h.head i h) h.head i r
      here = record { inside = λ c e. rw a.buckets≡ (new.inside c e ∙ sym (has'' c e)); outside = rw a.buckets≡ new.outside }

      tags' : (w j : ℕ) → K w → j < h.size w → Filled (upd₂ h.place h.head i changeable w j) → Dec ((w ≡ h.head) × (j ≡ i))
          → HoldsTags z (fill s h.head i h) w j (upd₂ R.bucket h.head i r w j)
      tags' w j k b p (yes c) = rw (c.0, c.1) (rw (upd₂_same R.bucket h.head i r) here)
      tags' w j k b p (no n) =
          let t = rep.tags w j k b (old w j n p) in
          rw (upd₂_other R.bucket h.head i r w j n)
          (record {
            inside = λ c e. rw a.buckets≡ (t.inside c e ∙ sym (has' w c (λ d. n (d.0, sym e ∙ ap (λ (z : ℕ). slot_in h z c) d.0 ∙ d.1))));
            outside = rw a.buckets≡ t.outside;
          })

      put_there : (w j : ℕ) → (w ≡ h.head) × (j ≡ i) → upd₂ R.bucket h.head i r w j ≡ r
      put_there w j c = rw (c.0, c.1) (upd₂_same R.bucket h.head i r)

      inj : (y j z l : ℕ) → K y → j < h.size y → Filled (upd₂ h.place h.head i changeable y j) → K z → l < h.size z
          → Filled (upd₂ h.place h.head i changeable z l)
          → upd₂ R.bucket h.head i r y j ≡ upd₂ R.bucket h.head i r z l → Dec ((y ≡ h.head) × (j ≡ i)) → Dec ((z ≡ h.head) × (l ≡ i))
          → (y ≡ z) × (j ≡ l)
      inj y j z l k b p k' b' p' e (yes c) (yes d) = (c.0 ∙ sym d.0, c.1 ∙ sym d.1)
      inj y j z l k b p k' b' p' e (no n) (no d) =
          rep.bucket_injective y j z l k b (old y j n p) k' b' (old z l d p')
          (sym (upd₂_other R.bucket h.head i r y j n) ∙ e ∙ upd₂_other R.bucket h.head i r z l d)
      inj y j z l k b p k' b' p' e (yes c) (no d) =
          absurd (new.away z l k' b' (old z l d p') (sym (put_there y j c) ∙ e ∙ upd₂_other R.bucket h.head i r z l d))
      inj y j z l k b p k' b' p' e (no n) (yes d) =
          absurd (new.away y j k b (old y j n p) (sym (put_there z l d) ∙ sym e ∙ upd₂_other R.bucket h.head i r y j n))
