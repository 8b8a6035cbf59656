-- The words go on representing the heap when line 24, 27 or 28 writes. Assumes nothing.
use Rattle.std.specs.Prelude.{◌≡◌, refl, ◌⊎◌, false, ℕ, suc, ◌≤◌, ◌<◌}
use Rattle.std.proofs.Common.{sym, ap, ◌∙◌, inl, inr, le_refl, arith}
use Rattle.std.proofs.Math.Decide.{ℕ_discrete}
use Rattle.spec.specs.Machine.{Machine}
use Rattle.spec.specs.Words.{size, place, tags}
use Rattle.spec.specs.Words as Words
use Rattle.spec.specs.Sound.{node_count}
use Rattle.laws.specs.Tests.{At, hit, miss, tf, at_miss, at_hit}
use Rattle.laws.specs.SoundFacts.{SoundFacts}
use Rattle.laws.specs.AfterWrites.{AfterHead, AfterPred, AfterNode}
use Rattle.model.specs.Functions.{upd, upd_same, upd_other}
use Rattle.model.specs.PlaceState.{PlaceState, empty, Filled, filled_not_empty}
use Rattle.model.specs.Heap.{Heap, unlink, advance}
use Rattle.model.specs.Lines.{NoPred}
use Rattle.linear.specs.Represents.{Records, Represents, size_bound, AwayNode, NewNode, with_node, place_word, first_word, HoldsTags}

-- ---- writes to the node pool, and a new head

module _ {y z : Machine} {h : Heap} {K : ℕ → Type 0} {R : Records} (f : SoundFacts y) (rep : Represents y h K R) where
  -- 24: the head's, or one of a node that has none
  pub represents_24 : AfterPred y (R.node h.head) z → Represents z (unlink h) K R
  represents_24 a = record {
    head≡ = ap (λ s. s.head) a.state≡ ∙ rep.head≡;
    head_known = rep.head_known;
    pred_known = λ l. absurd (tf l refl);
    known_bound = rep.known_bound;
    node_in_pool = λ x k. rw a.same.H≡ (rep.node_in_pool x k);
    slot≡ = λ k n. rw a.same.config≡ (rep.slot≡ k n);
    size≡ = λ x k. a.size≡ (R.node x) ∙ rep.size≡ x k;
    pred_some = λ l. absurd (tf l refl);
    pred_none = λ x k n. go x k (ℕ_discrete x h.head);
    place≡ = λ x i k b. a.place≡ (R.node x) i (let s = size_bound f rep x k in omega arith) ∙ rep.place≡ x i k b;
    first_word≡ = rw a.buckets≡ rep.first_word≡;
    tags = λ w j c b p. let t = rep.tags w j c b p in record { inside = rw a.buckets≡ t.inside; outside = rw a.buckets≡ t.outside };
    node_injective = rep.node_injective;
    bucket_injective = rep.bucket_injective;
  }
    where
      go : (x : ℕ) → K x → Dec (x ≡ h.head) → Words.pred z.nodes (R.node x) ≡ 0
      go x k (yes e) = rw e (at_hit refl (a.pred_at (R.node h.head)))
      go x k (no d) = at_miss (λ e. d (rep.node_injective x h.head k rep.head_known e)) (a.pred_at (R.node x)) ∙ rep.pred_none x k (λ e. absurd (d e))

  pub represents_24_past : (t : ℕ) → K t → ¬ (t ≡ h.head) → AfterPred y (R.node t) z → Represents z h K R
  represents_24_past t kt d a = record {
    head≡ = ap (λ s. s.head) a.state≡ ∙ rep.head≡;
    head_known = rep.head_known;
    pred_known = rep.pred_known;
    known_bound = rep.known_bound;
    node_in_pool = λ x k. rw a.same.H≡ (rep.node_in_pool x k);
    slot≡ = λ k n. rw a.same.config≡ (rep.slot≡ k n);
    size≡ = λ x k. a.size≡ (R.node x) ∙ rep.size≡ x k;
    pred_some =
        λ l s q. at_miss (λ e. d (sym (rep.node_injective h.head t rep.head_known kt e))) (a.pred_at (R.node h.head)) ∙ rep.pred_some l s q;
    pred_none = λ x k n. go x (a.pred_at (R.node x)) (rep.pred_none x k n);
    place≡ = λ x i k b. a.place≡ (R.node x) i (let s = size_bound f rep x k in omega arith) ∙ rep.place≡ x i k b;
    first_word≡ = rw a.buckets≡ rep.first_word≡;
    tags = λ w j c b p. let t = rep.tags w j c b p in record { inside = rw a.buckets≡ t.inside; outside = rw a.buckets≡ t.outside };
    node_injective = rep.node_injective;
    bucket_injective = rep.bucket_injective;
  }
    where
      go : (x : ℕ) → At (R.node x ≡ R.node t) 0 (Words.pred y.nodes (R.node x)) (Words.pred z.nodes (R.node x))
          → Words.pred y.nodes (R.node x) ≡ 0
          → Words.pred z.nodes (R.node x) ≡ 0
      go x (hit p e) q = e
      go x (miss n e) q = e ∙ q

  -- 27
  pub represents_27 : (r n p : ℕ) → AwayNode K R r → AfterNode y r n p z → Represents z h K R
  represents_27 r n p away a = record {
    head≡ = a.head≡ ∙ rep.head≡;
    head_known = rep.head_known;
    pred_known = rep.pred_known;
    known_bound = rep.known_bound;
    node_in_pool = λ x k. rw a.same.H≡ (rep.node_in_pool x k);
    slot≡ = λ k n. rw a.same.config≡ (rep.slot≡ k n);
    size≡ = λ x k. at_miss (λ e. away x k (sym e)) (a.size_at (R.node x)) ∙ rep.size≡ x k;
    pred_some = λ l s q. at_miss (λ e. away h.head rep.head_known (sym e)) (a.pred_at (R.node h.head)) ∙ rep.pred_some l s q;
    pred_none = λ x k f. at_miss (λ e. away x k (sym e)) (a.pred_at (R.node x)) ∙ rep.pred_none x k f;
    place≡ = λ x i k b. at_miss (λ e. away x k (sym e)) (a.place_at (R.node x) i (let s = size_bound f rep x k in omega arith)) ∙ rep.place≡ x i k b;
    first_word≡ = rw a.buckets≡ rep.first_word≡;
    tags = λ w j c b p. let t = rep.tags w j c b p in record { inside = rw a.buckets≡ t.inside; outside = rw a.buckets≡ t.outside };
    node_injective = rep.node_injective;
    bucket_injective = rep.bucket_injective;
  }

  -- 28
  pub represents_28 : (r n : ℕ) → h.linked ≡ false → n ≤ 32 → r < node_count y → NewNode y K R h.head n r → AfterHead y r z
      → Represents z (advance n h) (λ x. K x ⊎ (x ≡ suc h.head)) (with_node (suc h.head) r R)
  represents_28 r n l n≤ r< new a = record {
    head≡ = a.head≡ ∙ sym top';
    head_known = inr refl;
    pred_known = λ c s q. let e : s ≡ h.head = omega arith in inl (rw e rep.head_known);
    known_bound = bound';
    node_in_pool = node';
    slot≡ = λ k n. rw a.same.config≡ (rep.slot≡ k n);
    size≡ = λ x k. rw a.nodes≡ (size' x k);
    pred_some = λ c s q. let e : s ≡ h.head = omega arith in rw (a.nodes≡, e, top', filter h.head (le_refl _)) new.from;
    pred_none = λ x k f. rw a.nodes≡ (none' x k f);
    place≡ = λ x i k b. rw a.nodes≡ (place' x i k b);
    first_word≡ = λ x i k b p. rw a.buckets≡ (open' x i k b p);
    tags = tags';
    node_injective = injn;
    bucket_injective = injb;
  }
    where
      top' : upd R.node (suc h.head) r (suc h.head) ≡ r
      top' = upd_same R.node (suc h.head) r

      filter : (x : ℕ) → x ≤ h.head → upd R.node (suc h.head) r x ≡ R.node x
      filter x le = upd_other R.node (suc h.head) r x (λ e. omega arith)

      size₀ : (x : ℕ) → x ≤ h.head → (advance n h).size x ≡ h.size x
      size₀ x le = upd_other h.size (suc h.head) n x (λ e. omega arith)

      st₀ : (x : ℕ) → x ≤ h.head → (advance n h).place x ≡ h.place x
      st₀ x le = upd_other h.place (suc h.head) (λ i. empty) x (λ e. omega arith)

      st₁ : (x i : ℕ) → x ≡ suc h.head → (advance n h).place x i ≡ empty
      st₁ x i e = rw e (ap (λ (f : ℕ → PlaceState). f i) (upd_same h.place (suc h.head) (λ j. empty)))

      bound' : (x : ℕ) → K x ⊎ (x ≡ suc h.head) → x ≤ suc h.head
      bound' x (inl k) = let b = rep.known_bound x k in omega arith
      bound' x (inr e) = omega arith

      node' : (x : ℕ) → K x ⊎ (x ≡ suc h.head) → upd R.node (suc h.head) r x < node_count z
      node' x (inl k) = rw (a.same.H≡, filter x (rep.known_bound x k)) (rep.node_in_pool x k)
      node' x (inr e) = rw (a.same.H≡, e, top') r<

      size' : (x : ℕ) → K x ⊎ (x ≡ suc h.head) → size y.nodes (upd R.node (suc h.head) r x) ≡ (advance n h).size x
      size' x (inl k) = let b = rep.known_bound x k in rw (filter x b, size₀ x b) (rep.size≡ x k)
      size' x (inr e) = rw e (ap (size y.nodes) top' ∙ new.size≡ ∙ sym (upd_same h.size (suc h.head) n))

      none' : (x : ℕ) → K x ⊎ (x ≡ suc h.head) → NoPred (advance n h) x → Words.pred y.nodes (upd R.node (suc h.head) r x) ≡ 0
      none' x (inl k) f = rw (filter x (rep.known_bound x k)) (rep.pred_none x k (λ e. l))
      none' x (inr e) f = absurd (tf refl (f e))

      place' : (x i : ℕ) → K x ⊎ (x ≡ suc h.head) → i < (advance n h).size x
          → place y.nodes (upd R.node (suc h.head) r x) i ≡ place_word ((advance n h).place x i) (R.bucket x i)
      place' x i (inl k) b = let c = rep.known_bound x k in rw (filter x c, st₀ x c) (rep.place≡ x i k (rw (size₀ x c) at b))
      place' x i (inr e) b =
          let c : i < n = rw (e, upd_same h.size (suc h.head) n) at b in
          rw (st₁ x i e, e) (ap (λ (y' : ℕ). place y.nodes y' i) top' ∙ new.places i (omega arith))

      open' : (x i : ℕ) → K x ⊎ (x ≡ suc h.head) → i < (advance n h).size x → Filled ((advance n h).place x i)
          → Words.changeable y.buckets (R.bucket x i) ≡ first_word ((advance n h).place x i)
      open' x i (inl k) b p = let c = rep.known_bound x k in rw (st₀ x c) (rep.first_word≡ x i k (rw (size₀ x c) at b) (rw (st₀ x c) at p))
      open' x i (inr e) b p = absurd (filled_not_empty p (st₁ x i e))

      tags' : (x i : ℕ) → K x ⊎ (x ≡ suc h.head) → i < (advance n h).size x → Filled ((advance n h).place x i) → HoldsTags z (advance n h) x i (R.bucket x i)
      tags' x i (inl k) b p =
          let c = rep.known_bound x k in
          let t = rep.tags x i k (rw (size₀ x c) at b) (rw (st₀ x c) at p) in
          record {
            inside = λ d e. rw a.buckets≡ (t.inside d (rw (size₀ x c) at e));
            outside = λ d e. rw a.buckets≡ (t.outside d (λ u. e (rw (size₀ x c) u)));
          }
      tags' x i (inr e) b p = absurd (filled_not_empty p (st₁ x i e))

      injn : (x y : ℕ) → K x ⊎ (x ≡ suc h.head) → K y ⊎ (y ≡ suc h.head) → upd R.node (suc h.head) r x ≡ upd R.node (suc h.head) r y → x ≡ y
      injn x y (inl a) (inl b) e = rep.node_injective x y a b (sym (filter x (rep.known_bound x a)) ∙ e ∙ filter y (rep.known_bound y b))
      injn x y (inl a) (inr b) e = absurd (new.away x a (sym top' ∙ ap (upd R.node (suc h.head) r) (sym b) ∙ sym e ∙ filter x (rep.known_bound x a)))
      injn x y (inr a) (inl b) e = absurd (new.away y b (sym top' ∙ ap (upd R.node (suc h.head) r) (sym a) ∙ e ∙ filter y (rep.known_bound y b)))
      injn x y (inr a) (inr b) e = a ∙ sym b

      injb : (x i y j : ℕ) → K x ⊎ (x ≡ suc h.head) → i < (advance n h).size x → Filled ((advance n h).place x i) → K y ⊎ (y ≡ suc h.head)
          → j < (advance n h).size y
          → Filled ((advance n h).place y j)
          → R.bucket x i ≡ R.bucket y j → (x ≡ y) × (i ≡ j)
      injb x i y j (inl a) b p (inl a') b' p' e =
          let c = rep.known_bound x a in
          let d = rep.known_bound y a' in
          rep.bucket_injective x i y j a (rw (size₀ x c) at b) (rw (st₀ x c) at p) a' (rw (size₀ y d) at b') (rw (st₀ y d) at p') e
      injb x i y j (inl a) b p (inr a') b' p' e = absurd (filled_not_empty p' (st₁ y j a'))
      injb x i y j (inr a) b p c b' p' e = absurd (filled_not_empty p (st₁ x i a))
