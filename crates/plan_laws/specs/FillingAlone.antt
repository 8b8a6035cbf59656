-- A task alone fills a place of the head: each line of filling brings its end one step nearer, a bucket is taken by line 49 alone, and the
-- head's other places stay as they are. Assumes nothing.
use Rattle.std.specs.Prelude.{◌≡◌, refl, Bool, true, false, ℕ, suc, ◌+◌, ◌*◌, ◌-◌, ◌%◌}
use Rattle.std.proofs.Common.{sym, ap, ◌∙◌, arith, eq-eqb, ne_eqb}
use Rattle.std.proofs.Math.Decide.{ℕ_discrete}
use Rattle.model.specs.Functions.{upd₂_other}
use Rattle.model.specs.PlaceState.{empty, changeable, frozen, Filled, filled_not_empty}
use Rattle.model.specs.Heap.{Heap, freeze, fill}
use Rattle.model.specs.HeapInvariant.{HeapInvariant}
use Rattle.model.specs.Positions.{Fill, at_39, at_40, at_43, at_44, at_46, at_47, at_48, at_50, at_51}
use Rattle.model.specs.Lines.{FillStep, step_39_empty, step_39_filled, step_40_filled, step_40_none, step_40_grown, step_40_shrunk}
use Rattle.model.specs.Lines.{step_43, step_44, step_46, step_47, step_48, step_52, step_49, step_50_empty, step_50_filled}
use Rattle.model.specs.Filling.{InNode, FillFacts}
use Rattle.model.specs.FillSteps.{no_pred_filled}
use Rattle.plans.specs.Plan.{Shape, head_size, fill_steps}
use Rattle.plan_laws.specs.Alone.{PlaceAs, HeadAs, PlacesAs, FillState, fill_steps_left, fill_buckets_left, fill_took}

-- ---- the heap's writes leave the head's other places
module _ (S : Shape) (h : Heap) (D : ℕ → Type 0) (ha : HeadAs S h) (pa : PlacesAs S h D) where
  freeze_head : (x i : ℕ) → HeadAs S (freeze x i h)
  freeze_head x i = record { size≡ = ha.size≡; pred≡ = ha.pred≡ }

  freeze_places : (x i : ℕ) → ¬ (x ≡ h.head) → PlacesAs S (freeze x i h) D
  freeze_places x i d j n lt = rw (upd₂_other h.place x i frozen h.head j (λ e. d (sym e.0))) (pa j n lt)

  fill_head_as : (s t i : ℕ) → HeadAs S (fill s t i h)
  fill_head_as s t i = record { size≡ = ha.size≡; pred≡ = ha.pred≡ }

  fill_places : (s t i : ℕ) → ((j : ℕ) → D j → ¬ (j ≡ i)) → PlacesAs S (fill s t i h) D
  fill_places s t i d j n lt = rw (upd₂_other h.place t i changeable h.head j (λ e. d j n e.1)) (pa j n lt)

-- ---- how many lines, by the head's size and its predecessor's
fill_grown : (S : Shape) → head_size S ≡ 2 * S.pred → fill_steps S ≡ 7
unfolding fill_steps
fill_grown S e = rw (eq-eqb (head_size S) (2 * S.pred) e)

fill_shrunk : (S : Shape) → ¬ (head_size S ≡ 2 * S.pred) → fill_steps S ≡ 9
unfolding fill_steps
fill_shrunk S d = rw (ne_eqb (head_size S) (2 * S.pred) d)

steps_positive : (S : Shape) → fill_steps S ≡ suc (fill_steps S - 1)
steps_positive S = go (ℕ_discrete (head_size S) (2 * S.pred))
  where
    go : Dec (head_size S ≡ 2 * S.pred) → fill_steps S ≡ suc (fill_steps S - 1)
    go (yes e) = let q = fill_grown S e in omega arith
    go (no d) = let q = fill_shrunk S d in omega arith

-- ---- one line of filling place i of the head; f: was the place filled at the call's start
pub record FillNext (S : Shape) (D : ℕ → Type 0) (f : Bool) (t i : ℕ) (l : Fill) (g : Heap) (l' : Fill) : Type 0 where
  pub head_as : HeadAs S g
  pub places_as : PlacesAs S g D
  pub state : FillState f (g.place t i) l'
  pub steps : fill_steps_left S f l ≡ suc (fill_steps_left S f l')
  pub buckets : fill_buckets_left f l ≡ fill_took l' + fill_buckets_left f l'

module _ (S : Shape) (h : Heap) (inv : HeapInvariant h) (D : ℕ → Type 0) (t i : ℕ) (apart : (j : ℕ) → D j → ¬ (j ≡ i))
    (is-head : t ≡ h.head) (f : Bool) (ha : HeadAs S h) (pa : PlacesAs S h D) where
  -- the heap stays
  stays : {l : Fill} (l' : Fill) → FillState f (h.place t i) l' → fill_steps_left S f l ≡ suc (fill_steps_left S f l')
      → fill_buckets_left f l ≡ fill_took l' + fill_buckets_left f l' → FillNext S D f t i l h l'
  stays l' st a b = record { head_as = ha; places_as = pa; state = st; steps = a; buckets = b }

  -- a bucket of s is frozen
  freezes : {l : Fill} (l' : Fill) (s j : ℕ) → t ≡ suc s
      → fill_steps_left S f l ≡ suc (fill_steps_left S f l') → fill_buckets_left f l ≡ fill_took l' + fill_buckets_left f l'
      → FillState f ((freeze s j h).place t i) l' → FillNext S D f t i l (freeze s j h) l'
  freezes l' s j q a b st = record {
    head_as = freeze_head S h D ha pa s j;
    places_as = freeze_places S h D ha pa s j (λ e. omega arith);
    state = st;
    steps = a;
    buckets = b;
  }

  -- t's size against its predecessor's is the head's against the shape's
  sizes : (s : ℕ) → h.linked ≡ true → t ≡ suc s → (h.size t ≡ head_size S) × (h.size s ≡ S.pred)
  sizes s l q = (ap h.size is-head ∙ ha.size≡, ha.pred≡ s l (sym is-head ∙ q))

  grown_seven : (s : ℕ) → h.linked ≡ true → t ≡ suc s → h.size t ≡ 2 * h.size s → fill_steps S - 1 ≡ 6
  grown_seven s l q e =
      let z = sizes s l q in
      let a = z.0 in
      let b = z.1 in
      let n = fill_grown S (omega arith) in
      omega arith

  shrunk_nine : (s : ℕ) → h.linked ≡ true → t ≡ suc s → ¬ (h.size t ≡ 2 * h.size s) → fill_steps S - 1 ≡ 8
  shrunk_nine s l q d =
      let z = sizes s l q in
      let a = z.0 in
      let b = z.1 in
      let n = fill_shrunk S (λ e. d (omega arith)) in
      omega arith

  read_empty : (v : Bool) → v ≡ f → PlaceAs v (h.place t i) → h.place t i ≡ empty → FillNext S D f t i at_39 h (at_40 false)
  read_empty true q p e = absurd (filled_not_empty p e)
  read_empty false q p e = stays (at_40 false) (q, rw (← q) e) (rw (← q) (steps_positive S)) (rw (← q) refl)

  read_filled : (v : Bool) → v ≡ f → PlaceAs v (h.place t i) → Filled (h.place t i) → FillNext S D f t i at_39 h (at_40 true)
  read_filled false q p e = absurd (filled_not_empty e p)
  read_filled true q p e = stays (at_40 true) (q, rw (← q) e) (rw (← q) refl) (rw (← q) refl)

  no_pred : (b : Bool) → b ≡ f → PlaceAs f (h.place t i) → Filled (h.place t i) → FillNext S D f t i (at_40 b) h at_51
  no_pred true q p e = stays at_51 tt refl refl
  no_pred false q p e = absurd (filled_not_empty e (rw (← q) at p))

  pub fill_next : {l l' : Fill} {g : Heap} → FillStep h t i l g l' → InNode h t i → FillFacts h t i l → FillState f (h.place t i) l
      → FillNext S D f t i l g l'
  fill_next (step_39_empty e) w o st = read_empty f refl st e
  fill_next (step_39_filled e) w o st = read_filled f refl st e
  fill_next step_40_filled w o st = stays at_51 tt refl refl
  fill_next (step_40_none b n) w o st = no_pred b st.0 st.1 (no_pred_filled h inv t i w.0 n w.1)
  fill_next (step_40_grown {s = s} p e) w o st = stays (at_43 s) tt (grown_seven s p.1 p.2 e) refl
  fill_next (step_40_shrunk {s = s} p e) w o st = stays (at_46 s) tt (shrunk_nine s p.1 p.2 e) refl
  fill_next (step_43 {s = s}) w o st = stays (at_44 s) tt refl refl
  fill_next (step_44 {s = s}) w o st = freezes _ s (i % h.size s) o.0 refl refl tt
  fill_next (step_46 {s = s}) w o st = stays (at_47 s) tt refl refl
  fill_next (step_47 {s = s}) w o st = stays (at_48 s) tt refl refl
  fill_next (step_48 {s = s}) w o st = freezes _ s i o.0 refl refl tt
  fill_next (step_52 {s = s}) w o st = freezes _ s (i + h.size t) o.0 refl refl tt
  fill_next (step_49 {s = s}) w o st = stays (at_50 s) tt refl refl
  fill_next (step_50_empty {s = s} e) w o st =
      record {
        head_as = fill_head_as S h D ha pa s t i;
        places_as = fill_places S h D ha pa s t i apart;
        state = tt;
        steps = refl;
        buckets = refl;
      }
  fill_next (step_50_filled e) w o st = stays at_51 tt refl refl
