-- Each line of a contains is not refused with 8, and does in the words what it does in the model. Assumes nothing.
use Rattle.std.specs.Prelude.{◌≡◌, ◌⊎◌, true, false, List, ℕ}
use Rattle.std.proofs.Math.Path.{refl}
use Rattle.std.proofs.Common.{sym, ◌∙◌, arith}
use Rattle.std.proofs.Math.Logic.{inl, inr}
use Rattle.std.proofs.Math.Decide.{ℕ_discrete}
use Rattle.spec.specs.declared.Task.{Task}
use Rattle.spec.specs.Machine.{Machine, with_line, with_t, with_s, with_b}
use Rattle.spec.specs.Words.{link, filled}
use Rattle.spec.specs.Lines.{line_12, line_13, line_15, line_16, line_17, line_18}
use Rattle.laws.specs.StepAt.{step_table, sound_at, does_at}
use Rattle.laws.specs.Links.{true_filled}
use Rattle.laws.specs.Tests.{bool?}
use Rattle.model.specs.PlaceState.{empty, Filled, filled?}
use Rattle.model.specs.Heap.{Heap, state_for, slot_in}
use Rattle.model.specs.HeapInvariant.{HeapInvariant, place<}
use Rattle.spec.specs.History.{Ended}
use Rattle.model.specs.Positions.{Lookup, at_12, at_13, at_15, at_16, at_17, at_18, lookup}
use Rattle.model.specs.Lines.{NoPred, HasPred, step_12, step_13_filled, step_13_empty, step_15_some, step_15_none, step_16, step_17, end_18}
use Rattle.model.specs.PositionFacts.{LookupFacts}
use Rattle.linear.specs.Represents.{Represents, Records}
use Rattle.linear.specs.EffectOf.{EffectOf, moves_to, ends_call, Accepts}
use Rattle.linear.specs.ReadLinks.{not_none, for_filled, for_empty, pred_some_at, pred_none_at, has_at, head_at}
use Rattle.linear.specs.KnownNodes.{Names}
use Rattle.linear.specs.Matches.{at_line, LookupMatches}

pub filled_is : (r : ℕ) {l : ℕ} → l ≡ link r → filled l ≡ true
filled_is r {l} e = true_filled l (not_none r e)

-- t's predecessor, or that it has none
pub pred? : (h : Heap) → HeapInvariant h → (t : ℕ) → ((s : ℕ) × HasPred h t s) ⊎ NoPred h t
pred? h inv t = go (ℕ_discrete t h.head) (bool? h.linked)
  where
    go : Dec (t ≡ h.head) → (h.linked ≡ true) ⊎ (h.linked ≡ false) → ((s : ℕ) × HasPred h t s) ⊎ NoPred h t
    go (yes e) (inl l) = let c = inv.linked_ratio l in inl (c.0, (e, l, e ∙ c.1))
    go (yes e) (inr l) = inr (λ q. l)
    go (no d) c = inr (λ q. absurd (d q))

module _ {y : Machine} {h : Heap} {K : ℕ → Type 0} {R : Records} (inv : HeapInvariant h) (rep : Represents y h K R) (L : List Ended) (r : ℕ) (c : Task)
    (k : ℕ) where
  same_known : (x t : ℕ) → K t → x ≡ t → K x
  same_known x t k e = rw e k

  pub lookup_accepts : (l : Lookup) → LookupMatches h R k l c → LookupFacts h L k r l → ((x : ℕ) → Names (lookup k l) x → K x) → Accepts rep c (lookup k l)
  unfolding step_table line_12 line_13 line_15 line_16 line_17 line_18 with_line with_t with_s with_b
  lookup_accepts at_12 m o names = record {
    sound_step = sound_at y c 12 m.line≡ tt;
    effect_of = λ x. rw (does_at y c 12 m.line≡)
        (moves_to (lookup k (at_13 h.head)) step_12 (λ x q. same_known x h.head rep.head_known q) (at_line m refl refl refl, head_at inv rep) refl);
  }
  lookup_accepts (at_13 t) m o names = record {
    sound_step = sound_at y c 13 m.0.line≡ (not_none (R.node t) m.1);
    effect_of = λ x. rw (does_at y c 13 m.0.line≡) (go (filled? (state_for h t k)));
  }
    where
      go : (state_for h t k ≡ empty) ⊎ Filled (state_for h t k) → EffectOf rep c (lookup k (at_13 t)) (line_13 y c)
      go (inl e) =
          let b = for_empty inv rep t k (names t refl) m.1 m.0.tag≡ e in
          rw b (moves_to (lookup k (at_15 t)) (step_13_empty e) names (at_line m.0 refl refl refl, m.1) refl)
      go (inr f) =
          let b = for_filled inv rep t k (names t refl) m.1 m.0.tag≡ f in
          rw (filled_is _ b)
          (moves_to (lookup k (at_18 t)) (step_13_filled f) names (at_line m.0 refl refl refl, b, inl m.1) refl)
  lookup_accepts (at_15 t) m o names = record {
    sound_step = sound_at y c 15 m.0.line≡ (not_none (R.node t) m.1);
    effect_of = λ x. rw (does_at y c 15 m.0.line≡) (go (pred? h inv t));
  }
    where
      go : ((s : ℕ) × HasPred h t s) ⊎ NoPred h t → EffectOf rep c (lookup k (at_15 t)) (line_15 y c)
      go (inl (s, p)) =
          let b = pred_some_at inv rep t s p m.1 in
          rw (filled_is _ b)
          (moves_to (lookup k (at_16 s)) (step_15_some p) (λ x q. same_known x s (rep.pred_known p.1 s (sym p.0 ∙ p.2)) q)
          (at_line m.0 refl refl refl, b) refl)
      go (inr n) =
          let b = pred_none_at inv rep t (names t refl) n m.1 in
          rw b (moves_to (lookup k (at_17 t)) (step_15_none n) names (at_line m.0 refl refl refl, m.1) refl)
  lookup_accepts (at_16 s) m o names = record {
    sound_step = sound_at y c 16 m.0.line≡ (not_none (R.node s) m.1);
    effect_of = λ x.
        let a = o.0 in
        let f = inv.past_filled s (slot_in h s k) a (place< h inv s (h.key k) (omega arith)) in
        let b = for_filled inv rep s k (names s refl) m.1 m.0.tag≡ f in
        rw (does_at y c 16 m.0.line≡) (moves_to (lookup k (at_18 s)) step_16 names (at_line m.0 refl refl refl, b, inr m.1) refl);
  }
  lookup_accepts (at_17 t) m o names = record {
    sound_step = sound_at y c 17 m.0.line≡ (not_none (R.node t) m.1);
    effect_of = λ x.
        let b = for_filled inv rep t k (names t refl) m.1 m.0.tag≡ o.1 in
        rw (does_at y c 17 m.0.line≡) (moves_to (lookup k (at_18 t)) step_17 names (at_line m.0 refl refl refl, b, inl m.1) refl);
  }
  lookup_accepts (at_18 x) m o names = record {
    sound_step = sound_at y c 18 m.0.line≡ (not_none (R.bucket x (slot_in h x k)) m.1);
    effect_of = λ z. rw (does_at y c 18 m.0.line≡, has_at inv rep x k (names x refl) o.1 m.1 m.0.tag≡) (ends_call end_18);
  }
