-- A task's own step that ends no set call keeps the heap invariant and the listed tags, and leads to what holds at its next
-- position. Assumes nothing.
use Rattle.std.specs.Prelude.{◌≡◌, refl, ◌⊎◌, List, [], ℕ, suc, pred, ◌≤◌, ◌<◌}
use Rattle.std.proofs.Common.{ap, ◌∙◌, inl, inr, le_refl, arith}
use Rattle.std.proofs.Math.Decide.{ℕ_discrete}
use Rattle.model.specs.PlaceState.{PlaceState, empty, Filled, filled_not_empty}
use Rattle.model.specs.Functions.{upd_same, upd_other}
use Rattle.model.specs.Heap.{Heap, abs, decider_empty, advance, state_for, slot_in}
use Rattle.model.specs.HeapInvariant.{Ratio, HeapInvariant, place<}
use Rattle.model.specs.Writes.{unlink_invariant, unlink_rely, advance_invariant, advance_rely, advance_abs}
use Rattle.spec.specs.Lists.{member}
use Rattle.spec.specs.History.{Ended}
use Rattle.spec.specs.Linearizable.{after}
use Rattle.model.specs.Orders.{witness_last}
use Rattle.model.specs.Positions.{Position}
use Rattle.model.specs.Lines.{Step, step_12, step_13_filled, step_13_empty, step_15_some, step_15_none, step_16, step_17, step_32, step_33_filled}
use Rattle.model.specs.Lines.{step_33_empty, step_36_frozen, update_fills, step_51_update, step_20, resize_fills, step_51_next, step_51_last}
use Rattle.model.specs.Lines.{step_24_head, step_24_past, step_27_grow, step_27_shrink, step_20_limit, step_28_done, step_28_lost}
use Rattle.model.specs.Runs.{FirstPosition, first_contains, first_update, first_resize}
use Rattle.model.specs.Filling.{in_node_stays, ListedFew, SourceFew, SourcesFew, NewSourcesFew}
use Rattle.model.specs.FillSteps.{KeepsTags, unchanged, no_pred_filled, empty_is_head, fill_step}
use Rattle.model.specs.PositionFacts.{Witnessed, PositionFacts}

module _ (h : Heap) (inv : HeapInvariant h) (L : List Ended) (same : (k : ℕ) → member k (after [] L) ≡ abs h k) (few : ListedFew h) (all : SourcesFew h)
    (r : ℕ) where
  -- the places up to i are filled
  filled_up_to : (t i : ℕ) → ((j : ℕ) → j < i → Filled (h.place t j)) → Filled (h.place t i) → (j : ℕ) → j < suc i → Filled (h.place t j)
  filled_up_to t i all f j lt = go (ℕ_discrete j i)
    where
      go : Dec (j ≡ i) → Filled (h.place t j)
      go (yes q) = rw q f
      go (no d) = all j (omega arith)

  -- a contains that meets an empty place: its predecessor's bucket decides
  predecessor_decides : (k t s : ℕ) → t ≤ h.head → state_for h t k ≡ empty → t ≡ suc s → Witnessed h L k r s
  predecessor_decides k t s le e q f =
      let o = empty_is_head h inv t (slot_in h t k) (le, place< h inv t (h.key k) le) e in
      let a = o.0 in
      let v : state_for h h.head k ≡ empty = rw a at e in
      let one : pred h.head ≡ s = omega arith in
      witness_last k r (h.has s k) [] L (same k ∙ ap (λ (y : ℕ). h.has y k) (decider_empty h.head v ∙ one))

  advance_sources : (n : ℕ) → NewSourcesFew h (advance n h)
  advance_sources n s i a b f = go (ℕ_discrete (suc s) (suc h.head))
    where
      go : Dec (suc s ≡ suc h.head) → ((suc s ≤ h.head) × (i < h.size (suc s)) × Filled (h.place (suc s) i)) ⊎ SourceFew (advance n h) (suc s) i s
      go (yes q) = absurd (filled_not_empty f (rw q (ap (λ (u : ℕ → PlaceState). u i) (upd_same h.place (suc h.head) (λ j. empty)))))
      go (no d) =
          inl (omega arith, rw (upd_other h.size (suc h.head) n (suc s) d) at b, rw (upd_other h.place (suc h.head) (λ j. empty) (suc s) d) at f)

  pub own_step : {l l' : Position} {g : Heap} → Step h l g l' → PositionFacts h L r l → KeepsTags h g × PositionFacts g L r l'
  own_step (step_12 {k = k}) o =
      (unchanged h inv, (le_refl _, λ e. absurd (inv.head_changeable (slot_in h h.head k) (place< h inv h.head (h.key k) (le_refl _)) e)))
  own_step (step_13_filled f) o = (unchanged h inv, (o.0, f, o.1))
  own_step (step_13_empty {k = k} {t = t} e) o = (unchanged h inv, (o.0, o.1, λ s q. predecessor_decides k t s o.0 e q))
  own_step (step_15_some {s = s} p) o = let a = p.0 in let b = p.2 in (unchanged h inv, (omega arith, o.2 s p.2))
  own_step (step_15_none {k = k} {t = t} n) o =
      (unchanged h inv, (o.0, no_pred_filled h inv t (slot_in h t k) o.0 n (place< h inv t (h.key k) o.0), o.1))
  own_step (step_16 {k = k} {s = s}) o =
      let a = o.0 in (unchanged h inv, (omega arith, inv.past_filled s (slot_in h s k) a (place< h inv s (h.key k) (omega arith)), o.1))
  own_step step_17 o = (unchanged h inv, o)
  own_step step_32 o = (unchanged h inv, le_refl _)
  own_step (step_33_filled f) o = (unchanged h inv, (o, f))
  own_step (step_33_empty {k = k} {t = t} e) o = (unchanged h inv, ((o, place< h inv t (h.key k) o), refl, tt))
  own_step (step_36_frozen e) o = (unchanged h inv, tt)
  own_step (update_fills {k = k} {t = t} {i = i} {g = g} s) o =
      let u = fill_step h inv few all t i s o.0 o.2 in
      let le = u.0.le in
      (u.0, (in_node_stays h g le t i o.0, rw (le.size≡ t o.0.0, le.key≡ k) o.1, u.1))
  own_step step_51_update o = (unchanged h inv, (o.0.0, rw (o.1, state_for) o.2))
  own_step step_20 o = (unchanged h inv, ((le_refl _, inv.sizes_positive h.head (le_refl _)), λ j lt. absurd (omega arith), tt))
  own_step (resize_fills {t = t} {i = i} {g = g} s) o =
      let u = fill_step h inv few all t i s o.0 o.2 in
      let le = u.0.le in
      (u.0, (in_node_stays h g le t i o.0, λ j lt. le.filled_stays t j o.0.0 (o.1 j lt), u.1))
  own_step (step_51_next {t = t} {i = i} c) o = (unchanged h inv, ((o.0.0, c), filled_up_to t i o.1 o.2, tt))
  own_step (step_51_last {t = t} {i = i} c) o =
      let last : suc i ≡ h.size t = c in
      (unchanged h inv, (o.0.0, λ j lt. filled_up_to t i o.1 o.2 j (rw (← last) at lt)))
  own_step (step_24_head {t = t} q) o =
      let all : (i : ℕ) → i < h.size h.head → Filled (h.place h.head i) = rw q at o.1 in
      (record { inv = unlink_invariant h inv all; le = unlink_rely h inv all; abs≡ = λ k. refl; sources = λ s i a b f. inl (a, b, f) }, (o.0, λ p. refl))
  own_step (step_24_past d) o = (unchanged h inv, (o.0, λ q. absurd (d q)))
  own_step (step_27_grow {t = t}) o = let p = inv.sizes_positive t o.0 in (unchanged h inv, (o.0, o.1, omega arith, inl refl))
  own_step (step_27_shrink {t = t} e) o = let p = inv.sizes_positive t o.0 in (unchanged h inv, (o.0, o.1, omega arith, inr e))
  own_step step_20_limit o = (unchanged h inv, tt)
  own_step (step_28_done {n = n} q) o =
      let ratio : Ratio n (h.size h.head) = rw q at o.3 in
      let free = o.1 q in (
        record {
          inv = advance_invariant h inv n free o.2 ratio;
          le = advance_rely h inv n free o.2 ratio;
          abs≡ = advance_abs h inv n free
              o.2 ratio;
          sources = advance_sources n;
        },
        tt,
      )
  own_step (step_28_lost d) o = (unchanged h inv, tt)

  pub first_facts : {l : Position} → FirstPosition l → PositionFacts h L r l
  first_facts (first_contains k) = tt
  first_facts (first_update b k) = tt
  first_facts (first_resize b) = tt
