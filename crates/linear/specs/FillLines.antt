-- Each line that fills a place is not refused with 8, and does in the words what it does in the model. Assumes nothing.
use Rattle.std.specs.Prelude.{◌≡◌, ◌⊎◌, true, false, ℕ, ◌+◌, ◌*◌, ◌%◌, ◌≤◌, ◌<◌, length}
use Rattle.std.proofs.Math.Path.{refl}
use Rattle.std.proofs.Common.{sym, ap, ◌∙◌, subst, inl, inr, arith, eq-eqb, ne_eqb}
use Rattle.std.proofs.Math.Decide.{ℕ_discrete}
use Rattle.spec.specs.declared.Task.{Task}
use Rattle.spec.specs.Machine.{Machine, with_line, with_s, with_b, with_m, with_n, with_new_bucket}
use Rattle.spec.specs.Words.{Write, link, number, set_place}
use Rattle.spec.specs.Sound.{bucket_count}
use Rattle.spec.specs.Held.{free_bucket}
use Rattle.spec.specs.Listed.{size_of, pred_of}
use Rattle.spec.specs.Lines.{writes, line_39, after_40, line_40, line_43, line_44, line_46, line_47, line_48, line_52, gathered, line_49, line_50}
use Rattle.laws.specs.StepAt.{step_table, sound_at, does_at, taken_at}
use Rattle.laws.specs.SoundFacts.{SoundFacts}
use Rattle.laws.specs.Links.{true_filled}
use Rattle.laws.specs.Held.{HeldBucket}
use Rattle.laws.specs.Taking.{Taking, none_free, takes}
use Rattle.laws.proofs.Taking.{bucket_taking}
use Rattle.laws.specs.Tests.{tf}
use Rattle.model.specs.PlaceState.{empty, Filled, filled?}
use Rattle.model.specs.Heap.{Heap}
use Rattle.model.specs.HeapInvariant.{HeapInvariant, place<}
use Rattle.model.specs.Positions.{Fill, at_39, at_40, at_43, at_44, at_46, at_47, at_48, at_52, at_49, at_50, at_51}
use Rattle.model.specs.Lines.{NoPred, HasPred, step_39_empty, step_39_filled, step_40_filled, step_40_none, step_40_grown, step_40_shrunk, step_43, step_44}
use Rattle.model.specs.Lines.{step_46, step_47, step_48, step_52, step_49, step_50_empty, step_50_filled}
use Rattle.model.specs.Filling.{InNode, FillFacts}
use Rattle.model.specs.FillSteps.{empty_is_head}
use Rattle.linear.specs.Represents.{Represents, Records}
use Rattle.linear.specs.ReadLinks.{not_none, link_number, size_at, place_filled, place_empty, pred_some_at, pred_none_at}
use Rattle.linear.specs.LookupLines.{filled_is, pred?}
use Rattle.linear.specs.KnownNodes.{FillNames, fill_takes}
use Rattle.linear.specs.Matches.{at_line, FromOne, FromTwo, FillMatches}
use Rattle.linear.specs.Taken.{Taken}
use Rattle.linear.specs.FillEffects.{Before51, FillAccepts, FillEffectOf, fill_moves, fill_freezes, fill_takes_bucket, fill_fills}
use Rattle.linear.specs.Gathered.{gather_few, gather_own, gather_foreign}

module _ {y : Machine} {h : Heap} {K : ℕ → Type 0} {R : Records}
    (f : SoundFacts y) (inv : HeapInvariant h) (rep : Represents y h K R) (call tag t i : ℕ) (c : Task) (w : InNode h t i) (kt : K t) where
  abbrev FitsLine : Fill → Type 0
  FitsLine l = FillMatches h R call tag t i l c

  bound : {l : Fill} → FitsLine l → c.i < size_of y c.t
  bound m = rw (size_at inv rep t kt m.t≡, m.i≡) w.1

  pub fill_accepts : (l : Fill) → Before51 l → FitsLine l → FillFacts h t i l → ((x : ℕ) → FillNames t l x → K x) → Taken y h K R (fill_takes t i l) c
      → FillAccepts rep call tag t i c l
  unfolding step_table line_39 line_40 after_40 line_43 line_44 line_46 line_47 line_48 line_52 line_49 line_50 with_line with_s with_b with_m with_n
      with_new_bucket
  fill_accepts at_39 z m o names v = record {
    sound_step = sound_at y c 39 m.call_fields.line≡ (not_none (R.node t) m.t≡, bound m);
    effect_of = λ x. rw (does_at y c 39 m.call_fields.line≡) (go (filled? (h.place t i)));
  }
    where
      go : (h.place t i ≡ empty) ⊎ Filled (h.place t i) → FillEffectOf rep call tag t i c at_39 (line_39 y c)
      go (inl e) =
          let b = place_empty inv rep t i kt w.1 m.t≡ m.i≡ e in
          fill_moves (at_40 false) (step_39_empty e) names
          (record {
            call_fields = at_line m.call_fields refl refl refl;
            t≡ = m.t≡;
            i≡ = m.i≡;
            fields = (m.fields, λ u. absurd (tf u refl), λ u. b);
          })
          refl
      go (inr p) =
          let b = place_filled inv rep t i kt w.1 m.t≡ m.i≡ p in
          fill_moves (at_40 true) (step_39_filled p) names
          (record {
            call_fields = at_line m.call_fields refl refl refl;
            t≡ = m.t≡;
            i≡ = m.i≡;
            fields = (m.fields, λ u. not_none (R.bucket t i) b, λ u. absurd (tf refl u));
          })
          refl
  fill_accepts (at_40 true) z m o names v = record {
    sound_step = sound_at y c 40 m.call_fields.line≡ (not_none (R.node t) m.t≡);
    effect_of = λ x. rw (does_at y c 40 m.call_fields.line≡, true_filled c.b (m.fields.1 refl))
        (fill_moves at_51 step_40_filled names (record { call_fields = at_line m.call_fields refl refl refl; t≡ = m.t≡; i≡ = m.i≡; fields = tt }) refl);
  }
  fill_accepts (at_40 false) z m o names v = record {
    sound_step = sound_at y c 40 m.call_fields.line≡ (not_none (R.node t) m.t≡);
    effect_of = λ x. rw (does_at y c 40 m.call_fields.line≡) (go (pred? h inv t));
  }
    where
      b0 : c.b ≡ 0
      b0 = m.fields.2 refl

      more : (s : ℕ) → HasPred h t s → Dec (h.size t ≡ 2 * h.size s) → FillEffectOf rep call tag t i c (at_40 false) (line_40 y c)
      more s p (yes e) =
          let q = pred_some_at inv rep t s p m.t≡ in
          let ks = rep.pred_known p.1 s (sym p.0 ∙ p.2) in
          let test = eq-eqb (size_of y c.t) (2 * size_of y (pred_of y c.t))
          (size_at inv rep t kt m.t≡ ∙ e ∙ ap (λ (n : ℕ). 2 * n) (sym (size_at inv rep s ks q))) in
          rw (test, filled_is _ q, b0)
          (fill_moves (at_43 s) (step_40_grown p e) (λ x u. known x u)
          (record { call_fields = at_line m.call_fields refl refl refl; t≡ = m.t≡; i≡ = m.i≡; fields = (m.fields.0, q) }) refl)
        where
          known : (x : ℕ) → (x ≡ t) ⊎ (x ≡ s) → K x
          known x (inl u) = rw u kt
          known x (inr u) = rw u (rep.pred_known p.1 s (sym p.0 ∙ p.2))
      more s p (no n) =
          let q = pred_some_at inv rep t s p m.t≡ in
          let ks = rep.pred_known p.1 s (sym p.0 ∙ p.2) in
          let test = ne_eqb (size_of y c.t) (2 * size_of y (pred_of y c.t))
          (λ e. n (sym (size_at inv rep t kt m.t≡) ∙ e ∙ ap (λ (n : ℕ). 2 * n) (size_at inv rep s ks q))) in
          rw (test, filled_is _ q, b0)
          (fill_moves (at_46 s) (step_40_shrunk p n) (λ x u. known x u)
          (record { call_fields = at_line m.call_fields refl refl refl; t≡ = m.t≡; i≡ = m.i≡; fields = q }) refl)
        where
          known : (x : ℕ) → (x ≡ t) ⊎ (x ≡ s) → K x
          known x (inl u) = rw u kt
          known x (inr u) = rw u (rep.pred_known p.1 s (sym p.0 ∙ p.2))

      go : ((s : ℕ) × HasPred h t s) ⊎ NoPred h t → FillEffectOf rep call tag t i c (at_40 false) (line_40 y c)
      go (inl (s, p)) = more s p (ℕ_discrete (h.size t) (2 * h.size s))
      go (inr n) =
          let q = pred_none_at inv rep t kt n m.t≡ in
          rw (b0, q) (fill_moves at_51 (step_40_none false n) names (record {
            call_fields = at_line m.call_fields refl refl refl;
            t≡ = m.t≡;
            i≡ = m.i≡;
            fields = tt;
          }) refl)
  fill_accepts (at_43 s) z m o names v = record {
    sound_step = sound_at y c 43 m.call_fields.line≡ (not_none (R.node s) m.fields.1);
    effect_of = λ x.
        let q = o.0 in
        let a = w.0 in
        let lt : s < h.head = omega arith in
        let bs = place< h inv s i (omega arith) in
        let e = m.fields.1 in
        let ks = names s (inr refl) in
        let p = place_filled inv rep s (i % h.size s) {l = c.s} {j = c.i % size_of y c.s} ks bs e (rw (size_at inv rep s ks e, m.i≡))
        (inv.past_filled s (i % h.size s) lt bs) in
        rw (does_at y c 43 m.call_fields.line≡)
        (fill_moves (at_44 s) step_43 names (record {
          call_fields = at_line m.call_fields refl refl refl;
          t≡ = m.t≡;
          i≡ = m.i≡;
          fields = (m.fields.0, e, p);
        }) refl);
  }
  fill_accepts (at_44 s) z m o names v = record {
    sound_step = sound_at y c 44 m.call_fields.line≡ (not_none _ m.fields.2);
    effect_of = λ x.
        let q = o.0 in
        let a = w.0 in
        let lt : s < h.head = omega arith in
        let bs = place< h inv s i (omega arith) in
        let n : number c.m ≡ R.bucket s (i % h.size s) = rw m.fields.2 (link_number _) in
        rw (does_at y c 44 m.call_fields.line≡, n)
        (fill_freezes (at_49 s) s (i % h.size s) (names s (inr refl)) bs (inv.past_filled s (i % h.size s) lt bs) step_44 names
        (record {
          call_fields = at_line m.call_fields refl refl refl;
          t≡ = m.t≡;
          i≡ = m.i≡;
          fields = (m.fields.1, inl (o.1, m.fields.2, m.fields.0));
        }) refl);
  }
  fill_accepts (at_46 s) z m o names v = record {
    sound_step = sound_at y c 46 m.call_fields.line≡ (not_none (R.node s) m.fields, in_s);
    effect_of = λ x.
        let q = o.0 in
        let a = w.0 in
        let b = w.1 in
        let d = o.1 in
        let lt : s < h.head = omega arith in
        let bs : i < h.size s = omega arith in
        let p = place_filled inv rep s i (names s (inr refl)) bs m.fields m.i≡ (inv.past_filled s i lt bs) in
        rw (does_at y c 46 m.call_fields.line≡)
        (fill_moves (at_47 s) step_46 names (record {
          call_fields = at_line m.call_fields refl refl refl;
          t≡ = m.t≡;
          i≡ = m.i≡;
          fields = (m.fields, p);
        }) refl);
  }
    where
      in_s : c.i < size_of y c.s
      in_s = let b = w.1 in let e = o.1 in rw (size_at inv rep s (names s (inr refl)) m.fields, m.i≡) (omega arith)
  fill_accepts (at_47 s) z m o names v = record {
    sound_step = sound_at y c 47 m.call_fields.line≡ (not_none (R.node t) m.t≡, (not_none (R.node s) m.fields.0, in_s));
    effect_of = λ x.
        let q = o.0 in
        let a = w.0 in
        let b = w.1 in
        let d = o.1 in
        let lt : s < h.head = omega arith in
        let bs : i + h.size t < h.size s = omega arith in
        let p = place_filled inv rep s (i + h.size t) {l = c.s} {j = c.i + size_of y c.t} (names s (inr refl)) bs m.fields.0
        (rw (size_at inv rep t kt m.t≡, m.i≡)) (inv.past_filled s (i + h.size t) lt bs) in
        rw (does_at y c 47 m.call_fields.line≡)
        (fill_moves (at_48 s) step_47 names
        (record { call_fields = at_line m.call_fields refl refl refl; t≡ = m.t≡; i≡ = m.i≡; fields = (m.fields.0, (d, m.fields.1, p)) }) refl);
  }
    where
      in_s : c.i + size_of y c.t < size_of y c.s
      in_s = let b = w.1 in let e = o.1 in rw (size_at inv rep s (names s (inr refl)) m.fields.0, size_at inv rep t kt m.t≡, m.i≡) (omega arith)
  fill_accepts (at_48 s) z m o names v = record {
    sound_step = sound_at y c 48 m.call_fields.line≡ (not_none _ m.fields.1.1);
    effect_of = λ x.
        let q = o.0 in
        let a = w.0 in
        let b = w.1 in
        let d = o.1 in
        let lt : s < h.head = omega arith in
        let bs : i < h.size s = omega arith in
        let n : number c.m ≡ R.bucket s i = rw m.fields.1.1 (link_number _) in
        rw (does_at y c 48 m.call_fields.line≡, n)
        (fill_freezes (at_52 s) s i (names s (inr refl)) bs (inv.past_filled s i lt bs) step_48 names
        (record { call_fields = at_line m.call_fields refl refl refl; t≡ = m.t≡; i≡ = m.i≡; fields = m.fields }) refl);
  }
  fill_accepts (at_52 s) z m o names v = record {
    sound_step = sound_at y c 52 m.call_fields.line≡ (not_none _ m.fields.1.2);
    effect_of = λ x.
        let q = o.0 in
        let a = w.0 in
        let b = w.1 in
        let d = o.1 in
        let lt : s < h.head = omega arith in
        let bs : i + h.size t < h.size s = omega arith in
        let n : number c.n ≡ R.bucket s (i + h.size t) = rw m.fields.1.2 (link_number _) in
        rw (does_at y c 52 m.call_fields.line≡, n)
        (fill_freezes (at_49 s) s (i + h.size t) (names s (inr refl)) bs (inv.past_filled s (i + h.size t) lt bs) step_52 names
        (record { call_fields = at_line m.call_fields refl refl refl; t≡ = m.t≡; i≡ = m.i≡; fields = (m.fields.0, inr m.fields.1) }) refl);
  }
  fill_accepts (at_49 s) z m o names v = record {
    sound_step = sound_at y c 49 m.call_fields.line≡ (not_none (R.node t) m.t≡, (filled_m m.fields.1, few));
    effect_of = λ x. rw (does_at y c 49 m.call_fields.line≡) (go (bucket_taking y f) (taken_at y c 49 m.call_fields.line≡ x));
  }
    where
      filled_m : FromOne h R s t i c ⊎ FromTwo h R s t i c → ¬ (c.m ≡ 0)
      filled_m (inl u) = not_none _ u.1
      filled_m (inr u) = not_none _ u.1

      few : length (gathered y c) ≤ 64
      few = gather_few f inv rep s t i kt (names s (inr refl)) w o.0 c m.t≡ m.i≡ o.2 m.fields.1

      go : Taking (HeldBucket y) (bucket_count y) y.state.last_bucket (free_bucket y) → ¬ (free_bucket y ≡ 0)
          → FillEffectOf rep call tag t i c (at_49 s) (line_49 y c)
      go (none_free e a) n = absurd (n e)
      go (takes r e b first) n =
          let q : number (free_bucket y) ≡ r = rw e (link_number r) in
          rw q
          (fill_takes_bucket s r (gathered y c) step_49 names
          (record { call_fields = at_line m.call_fields refl refl refl; t≡ = m.t≡; i≡ = m.i≡; fields = m.fields.0 }) e b first.not_held few
          (gather_own f inv rep s t i kt (names s (inr refl)) w o.0 c m.t≡ m.i≡ m.fields.1)
          (gather_foreign f inv rep s t i kt (names s (inr refl)) w o.0 c m.t≡ m.i≡ m.fields.1))
  fill_accepts (at_50 s) z m o names v = record {
    sound_step = sound_at y c 50 m.call_fields.line≡ (not_none (R.node t) m.t≡, (not_none v.0 v.1, bound m));
    effect_of = λ x. rw (does_at y c 50 m.call_fields.line≡) (go (filled? (h.place t i)));
  }
    where
      go : (h.place t i ≡ empty) ⊎ Filled (h.place t i) → FillEffectOf rep call tag t i c (at_50 s) (line_50 y c)
      go (inr p) =
          let b = place_filled inv rep t i kt w.1 m.t≡ m.i≡ p in
          rw (filled_is _ b)
          (fill_moves at_51 (step_50_filled p) (λ x u. names x (inl u))
          (record { call_fields = at_line m.call_fields refl refl refl; t≡ = m.t≡; i≡ = m.i≡; fields = tt }) refl)
      go (inl e) =
          let b = place_empty inv rep t i kt w.1 m.t≡ m.i≡ e in
          let n : number c.t ≡ R.node t = rw m.t≡ (link_number _) in
          let place_word : set_place (number c.t) c.i c.new_bucket ≡ set_place (R.node t) i (link v.0) = rw (n, m.i≡, v.1) in
          rw b (subst (λ (u : Write). FillEffectOf rep call tag t i c (at_50 s) (writes u (with_line 51 c))) (sym place_word)
          (fill_fills at_51 s v.0 (empty_is_head h inv t i w e).0 o.0 w.1 e refl v.1 v.2 (step_50_empty e) (λ x u. names x (inl u))
          (record { call_fields = at_line m.call_fields refl refl refl; t≡ = m.t≡; i≡ = m.i≡; fields = tt }) refl))
  fill_accepts at_51 z m o names v = absurd z
