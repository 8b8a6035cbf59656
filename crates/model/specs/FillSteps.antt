-- Each line that fills a place keeps the heap invariant and the listed tags, and leads to what holds at the next line. Line 50 may
-- fill the place because all that it is made of is frozen. Assumes nothing.
use Rattle.std.specs.Prelude.{◌≡◌, refl, ◌⊎◌, true, false, ℕ, suc, pred, ◌+◌, ◌*◌, ◌%◌, ◌≤◌, ◌<◌}
use Rattle.std.proofs.Common.{sym, ap, ◌∙◌, inl, inr, arith}
use Rattle.std.proofs.Math.Decide.{ℕ_discrete}
use Rattle.model.specs.Functions.{at?, pick_at, upd₂, upd₂_at, upd₂_same}
use Rattle.model.specs.PlaceState.{empty, changeable, frozen, Filled, of_changeable, filled_not_empty, filled?}
use Rattle.model.specs.Heap.{Heap, at, decider, abs, decider_empty, fill, freeze, slot_in}
use Rattle.model.specs.HeapInvariant.{Ratio, HeapInvariant, Rely, place<}
use Rattle.model.specs.Writes.{rely_refl, set_frozen, set_frozen⁻, freeze_invariant, freeze_rely, freeze_abs, fill_invariant, fill_rely, fill_abs}
use Rattle.laws.specs.Tests.{At, hit, miss, bool?, tf}
use Rattle.model.specs.Positions.{Fill}
use Rattle.model.specs.Lines.{NoPred, FillStep, step_39_empty, step_39_filled, step_40_filled, step_40_none, step_40_grown, step_40_shrunk, step_43}
use Rattle.model.specs.Lines.{step_44, step_46, step_47, step_48, step_52, step_49, step_50_empty, step_50_filled}
use Rattle.model.specs.Filling.{NewSourcesFew, InNode, SourceFrozen, ListedFew, SourceFew, SourcesFew, Ready, source_few_stays, FillFacts}
use Rattle.model.specs.Slots.{mod_grown, mod_shrunk}

-- no line of filling moves the head
pub fill_head : {h : Heap} {t i : ℕ} {g : Heap} {l l' : Fill} → FillStep h t i l g l' → g.head ≡ h.head
fill_head (step_39_empty e) = refl
fill_head (step_39_filled e) = refl
fill_head step_40_filled = refl
fill_head (step_40_none b n) = refl
fill_head (step_40_grown p e) = refl
fill_head (step_40_shrunk p e) = refl
fill_head step_43 = refl
fill_head step_44 = refl
fill_head step_46 = refl
fill_head step_47 = refl
fill_head step_48 = refl
fill_head step_52 = refl
fill_head step_49 = refl
fill_head (step_50_empty e) = refl
fill_head (step_50_filled e) = refl

-- what a step that ends no set call does
pub record KeepsTags (h g : Heap) : Type 0 where
  pub inv : HeapInvariant g
  pub le : Rely h g
  pub abs≡ : (k : ℕ) → abs g k ≡ abs h k
  pub sources : NewSourcesFew h g

module _ (h : Heap) (inv : HeapInvariant h) where
  pub unchanged : KeepsTags h h
  unchanged = record { inv = inv; le = rely_refl h; abs≡ = λ k. refl; sources = λ s i a b f. inl (a, b, f) }

  -- a node without a predecessor has every place filled
  pub no_pred_filled : (t i : ℕ) → t ≤ h.head → NoPred h t → i < h.size t → Filled (h.place t i)
  no_pred_filled t i le none b = go (ℕ_discrete t h.head)
    where
      go : Dec (t ≡ h.head) → Filled (h.place t i)
      go (yes q) = rw q (inv.unlinked_filled (none q) i (rw q at b))
      go (no d) = inv.past_filled t i (omega arith) b

  -- an empty place is the head's, and the head has a predecessor
  pub empty_is_head : (t i : ℕ) → InNode h t i → h.place t i ≡ empty → (t ≡ h.head) × (h.linked ≡ true)
  empty_is_head t i w e = go (ℕ_discrete t h.head) (bool? h.linked)
    where
      go : Dec (t ≡ h.head) → (h.linked ≡ true) ⊎ (h.linked ≡ false) → (t ≡ h.head) × (h.linked ≡ true)
      go (yes q) (inl l) = (q, l)
      go (yes q) (inr l) = absurd (filled_not_empty (no_pred_filled t i w.0 (λ p. l) w.1) e)
      go (no d) c = absurd (filled_not_empty (no_pred_filled t i w.0 (λ p. absurd (d p)) w.1) e)

  -- what a filled place was filled from is frozen
  pub filled_source_frozen : (s i : ℕ) → suc s ≤ h.head → Filled (h.place (suc s) i) → SourceFrozen h (suc s) i s
  filled_source_frozen s i lt f k e = go (ℕ_discrete (suc s) h.head) (bool? h.linked)
    where
      b : k % h.size s < h.size s
      b = place< h inv s k (omega arith)

      f' : Filled (at h (suc s) k)
      f' = rw (e, at) f

      go : Dec (suc s ≡ h.head) → (h.linked ≡ true) ⊎ (h.linked ≡ false) → at h s k ≡ frozen
      go (yes q) (inl l) = inv.copied_frozen l s k (sym q) (rw q at f')
      go (yes q) (inr l) = inv.unlinked_frozen l s (k % h.size s) lt b
      go (no d) c = inv.older_frozen s (k % h.size s) (omega arith) b

  pub sources_few_next : (g : Heap) → Rely h g → NewSourcesFew h g → SourcesFew h → SourcesFew g
  sources_few_next g le news all s i a b f = go (news s i a b f)
    where
      go : ((suc s ≤ h.head) × (i < h.size (suc s)) × Filled (h.place (suc s) i)) ⊎ SourceFew g (suc s) i s → SourceFew g (suc s) i s
      go (inl c) = let d = c.0 in source_few_stays h g le (suc s) i s d (omega arith) (filled_source_frozen s i d c.2) (all s i d c.1 c.2)
      go (inr u) = u

  -- the buckets before place i of t hold no more than 64: they decide, or the place was filled from them
  pub source_few_now : ListedFew h → SourcesFew h → (t i s : ℕ) → InNode h t i → t ≡ suc s → SourceFew h t i s
  source_few_now few all t i s w q = go (filled? (h.place t i))
    where
      go : (h.place t i ≡ empty) ⊎ Filled (h.place t i) → SourceFew h t i s
      go (inr f) = rw q (all s i (rw q at w.0) (rw q at w.1) (rw q at f))
      go (inl e) = λ l d u. few l d (λ k m. let c = u k m in ap (λ (y : ℕ). h.has y k) (here (h.key k) c.0) ∙ c.1)
        where
          here : (k : ℕ) → k % h.size t ≡ i → decider h k ≡ s
          here k a =
              let p = (empty_is_head t i w e).0 in
              let v : at h t k ≡ empty = rw (a, at) e in
              let v' : at h h.head k ≡ empty = rw p at v in
              let one : pred h.head ≡ s = omega arith in
              decider_empty h.head v' ∙ one

  fill_sources : (i s : ℕ) → h.head ≡ suc s → SourceFew h h.head i s → NewSourcesFew h (fill s h.head i h)
  fill_sources i s q u y j a b f = go (upd₂_at h.place h.head i changeable (suc y) j)
    where
      has' : (k : ℕ) → (fill s h.head i h).has s k ≡ h.has s k
      has' k = elim (pick_at (at? h.head i s (slot_in h h.head k)) (h.has s k) (h.has s k)) [ hit p e ↦ e | miss n e ↦ e ]

      same : SourceFew (fill s h.head i h) h.head i s
      same l d v = u l d (λ k m. let c = v k m in (c.0, sym (has' k) ∙ c.1))

      go : At ((suc y ≡ h.head) × (j ≡ i)) changeable (h.place (suc y) j) (upd₂ h.place h.head i changeable (suc y) j)
          → ((suc y ≤ h.head) × (j < h.size (suc y)) × Filled (h.place (suc y) j)) ⊎ SourceFew (fill s h.head i h) (suc y) j y
      go (hit p e) =
          let c = p.0 in
          let ys : y ≡ s = omega arith in
          inr (rw (p.1, ys, ← q) same)
      go (miss n e) = inl (a, b, rw e at f)

  pub fill_good : (t i s : ℕ) → InNode h t i → Ready h t i s → h.place t i ≡ empty → KeepsTags h (fill s t i h)
  fill_good t i s w r e =
      let q = (empty_is_head t i w e).0 in
      rw q (record {
        inv = fill_invariant h inv s i (sym q ∙ r.0) (rw q at e) (rw q at r.1);
        le = fill_rely h inv s i (sym q ∙ r.0) (rw q at e) (rw q at r.1);
        abs≡ = fill_abs h inv s i (sym q ∙ r.0) (rw q at e) (rw q at r.1);
        sources = fill_sources i s (sym q ∙ r.0) (rw q at r.2);
      })

  pub freeze_good : (x i : ℕ) → x < h.head → i < h.size x → KeepsTags h (freeze x i h)
  freeze_good x i lt b =
      let f = inv.past_filled x i lt b in
      record {
        inv = freeze_invariant h inv x i lt f;
        le = freeze_rely h inv x i lt f;
        abs≡ = freeze_abs h inv x i lt f;
        sources = λ s j a c p. inl (a, c, set_frozen⁻ h.place x i f (suc s) j p);
      }

  pub fill_step : ListedFew h → SourcesFew h → (t i : ℕ) {g : Heap} {l l' : Fill} → FillStep h t i l g l' → InNode h t i → FillFacts h t i l
      → KeepsTags h g × FillFacts g t i l'
  fill_step few all t i (step_39_empty e) w o = (unchanged, λ f. absurd (tf f refl))
  fill_step few all t i (step_39_filled f) w o = (unchanged, λ e. f)
  fill_step few all t i step_40_filled w o = (unchanged, o refl)
  fill_step few all t i (step_40_none b n) w o = (unchanged, no_pred_filled t i w.0 n w.1)
  fill_step few all t i (step_40_grown p e) w o = (unchanged, (p.2, e))
  fill_step few all t i (step_40_shrunk {s = s} p e) w o = (unchanged, (p.2, let c = inv.linked_ratio p.1 in go c.0 c.1 c.2))
    where
      go : (r : ℕ) → h.head ≡ suc r → Ratio (h.size h.head) (h.size r) → h.size s ≡ 2 * h.size t
      go r q (inl x) = let a = p.0 in let b = p.2 in let rs : r ≡ s = omega arith in absurd (e (rw (p.0, ← rs) x))
      go r q (inr x) = let a = p.0 in let b = p.2 in let rs : r ≡ s = omega arith in rw (p.0, ← rs) x
  fill_step few all t i step_43 w o = (unchanged, o)
  fill_step few all t i (step_44 {s = s}) w o =
      let q = o.0 in
      let a = w.0 in (
        freeze_good s (i % h.size s) (omega arith) (place< h inv s i (omega arith)),
        (
          q,
          λ k e. let m : k % h.size s ≡ i % h.size s = sym (mod_grown k (h.size t) (h.size s) o.1) ∙ ap (λ (n : ℕ). n % h.size s) e in
              rw (m, at) (upd₂_same h.place s (i % h.size s) frozen),
          source_few_now few all t i s w q,
        ),
      )
  fill_step few all t i step_46 w o = (unchanged, o)
  fill_step few all t i step_47 w o = (unchanged, o)
  fill_step few all t i (step_48 {s = s}) w o =
      let q = o.0 in
      let a = w.0 in
      let b = w.1 in
      let d = o.1 in
      (freeze_good s i (omega arith) (omega arith), (q, d, upd₂_same h.place s i frozen))
  fill_step few all t i (step_52 {s = s}) w o =
      let q = o.0 in
      let a = w.0 in
      let b = w.1 in
      let d = o.1 in (
        freeze_good s (i + h.size t) (omega arith) (omega arith),
        (
          q,
          λ k e. go k e (mod_shrunk k (h.size t) (h.size s) (omega arith) d),
          source_few_now few all t i s w q,
        ),
      )
    where
      go : (k : ℕ) → k % h.size t ≡ i → (k % h.size s ≡ k % h.size t) ⊎ (k % h.size s ≡ k % h.size t + h.size t)
          → at (freeze s (i + h.size t) h) s k ≡ frozen
      go k e (inl m) = let n = m ∙ e in rw (n, at) (set_frozen h.place s (i + h.size t) s i o.2)
      go k e (inr m) = let n : k % h.size s ≡ i + h.size t = rw e at m in rw (n, at) (upd₂_same h.place s (i + h.size t) frozen)
  fill_step few all t i step_49 w o = (unchanged, o)
  fill_step few all t i (step_50_empty {s = s} e) w o = (fill_good t i s w o e, rw (upd₂_same h.place t i changeable) of_changeable)
  fill_step few all t i (step_50_filled f) w o = (unchanged, f)
