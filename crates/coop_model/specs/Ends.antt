-- Where a call stands in the order when it ends: there already, or last, or, a member test, at its witness. Assumes nothing.
use Rattle.std.specs.Prelude.{ℕ, Bool, false, true, List, ◌⊎◌, ◌≡◌, refl}
use Rattle.std.proofs.Common.{inl, inr, ◌∙◌, ap, subst, sym, arith}
use Rattle.std.proofs.Math.Decide.{ℕ_discrete}
use Rattle.spec.specs.Lists.{member}
use Rattle.laws.specs.Tests.{tf}
use Rattle.coop_spec.specs.Atomic.{AtomicCall, FSet, Operations, Result, boolean, change, empty_bucket, freeze, get_response, has_member, invoke}
use Rattle.coop_spec.specs.Atomic.{next, outcome, tag_set}
use Rattle.coop_spec.specs.History.{Ended, Occurrence}
use Rattle.coop_spec.specs.Linearizable.{Absent, In}
use Rattle.coop_model.specs.Heap.{Heap, OpField, advance, bottom, mark_returned, op}
use Rattle.coop_model.specs.HeapInvariant.{HeapInvariant, Kind, Rely, bottom_not_op, changeable, counted_set, invoked_old, invoked_shut}
use Rattle.coop_model.specs.HeapInvariant.{is_bottom, is_nil, is_op, kind, nil_not_op, not_done, rely_refl}
use Rattle.coop_model.specs.Lines.{End, e107_no, e107_yes, e113_op, e113_set, e117, e127, e130, e140, e140_lost}
use Rattle.coop_model.specs.Orders.{Witness, bucket_after}
use Rattle.coop_model.specs.PositionFacts.{PositionFacts, occurrence}
use Rattle.coop_model.specs.Positions.{Position, call_at, runs}
use Rattle.coop_model.specs.Tags.{other_tag_after, own_tag_after}
use Rattle.coop_model.specs.Writes.{advance_keeps, advance_rely, returned_keeps, returned_rely}

module _ (T : Operations) (h : Heap) (H : List Ended) (L : List Occurrence) (i : HeapInvariant T h (bucket_after T L)) (p r : ℕ) where
  -- it stands in the order already; or goes last, and does nothing to the atomic bucket; or is a member test with a witness
  pub data EndPlaced : Heap → AtomicCall → Result → Type 0 where
    there : {g : Heap} {c : AtomicCall} {a : Result} → HeapInvariant T g (bucket_after T L) → Rely T h (bucket_after T L) g (bucket_after T L)
        → g.flag ≡ h.flag
        → In (occurrence p r c a) L → EndPlaced g c a
    last : {g : Heap} {c : AtomicCall} {a : Result} → HeapInvariant T g (bucket_after T L) → Rely T h (bucket_after T L) g (bucket_after T L)
        → g.flag ≡ h.flag → Absent p r L
        → next T c (bucket_after T L) ≡ bucket_after T L → outcome T c (bucket_after T L) ≡ a → EndPlaced g c a
    between : {k : ℕ} {v : Bool} → Absent p r L → Witness T H k r v empty_bucket L → EndPlaced h (has_member k) (boolean v)

  same_frozen : (bucket_after T L).ok ≡ false → next T freeze (bucket_after T L) ≡ bucket_after T L
  same_frozen e = ap (λ (b : Bool). record { ok = b; set = (bucket_after T L).set; done = (bucket_after T L).done; resp = (bucket_after T L).resp }) (sym e)

  seen : (k o : ℕ) → o ≡ h.current → ((m : ℕ) → ¬ (h.op_at o ≡ op m)) → Absent p r L → EndPlaced h (has_member k) (boolean (member k (h.set o)))
  seen k o q n f =
      last {c = has_member k} i (rely_refl T h (bucket_after T L)) refl f refl (ap (λ (S : List ℕ). boolean (member k S))
      (i.same_set ∙ go (kind (h.op_at h.current)) ∙ ap h.set (sym q)))
    where
      go : Kind (h.op_at h.current) → counted_set T (h.op_at h.current) (h.set h.current) ≡ h.set h.current
      go (is_nil e) = ap (λ (x : OpField). counted_set T x (h.set h.current)) e
      go (is_bottom e) = ap (λ (x : OpField). counted_set T x (h.set h.current)) e
      go (is_op m e) = absurd (n m (ap h.op_at q ∙ e))

  pub end_placed : {l : Position} {g : Heap} {c : AtomicCall} {a : Result} → End T h l g c a → PositionFacts T h H L p r l → EndPlaced g c a
  end_placed (e107_yes {n = n} d) o =
      let c = (i.done_answered n d).0 in
      let e = invoked_old T n (bucket_after T L) c in
      last {c = invoke n} (returned_keeps T h (bucket_after T L) i n d)
      (returned_rely T h h (bucket_after T L) (bucket_after T L) n (rely_refl T h (bucket_after T L))) refl
      o.1 e (ap (λ (B : FSet). boolean (B.done n)) e ∙ ap boolean c)
  end_placed (e107_no {n = n} d) o = go o.0
    where
      go : (h.done n ≡ true) ⊎ (h.op_at h.current ≡ bottom) → EndPlaced h (invoke n) (boolean false)
      go (inl x) = absurd (tf x d)
      go (inr x) =
          let e = invoked_shut T n (bucket_after T L) (i.same_ok ∙ ap changeable x) in
          let u = not_done T h (bucket_after T L) i n d (inr x) in
          last {c = invoke n} i (rely_refl T h (bucket_after T L)) refl o.1 e (ap (λ (B : FSet). boolean (B.done n)) e ∙ ap boolean u)
  end_placed (e113_op {k = k} {o = v} {m = m} e q) o =
      let x : member k (change T m (h.set v)) ≡ T.inserts m = ap (λ (y : ℕ). member y (change T m (h.set v))) (sym q) ∙ own_tag_after
      (T.inserts m) (T.tag m) (h.set v)
      (i.rising v) in
      between o.0 (subst (λ (b : Bool). Witness T H k r b empty_bucket L) x (o.2 m e))
  end_placed (e113_set {k = k} {o = v} n) o = go (kind (h.op_at v))
    where
      end : ((m : ℕ) → ¬ (h.op_at v ≡ op m)) → v ≡ h.current
      end d = at (ℕ_discrete v h.current)
        where
          at : Dec (v ≡ h.current) → v ≡ h.current
          at (yes q) = q
          at (no ne) = let a = o.1 in let x = i.past_done v (omega arith) in absurd (d x.0 x.1)

      go : Kind (h.op_at v) → EndPlaced h (has_member k) (boolean (member k (h.set v)))
      go (is_nil e) = let d : (m : ℕ) → ¬ (h.op_at v ≡ op m) = λ m f. nil_not_op e f in seen k v (end d) d o.0
      go (is_bottom e) = let d : (m : ℕ) → ¬ (h.op_at v ≡ op m) = λ m f. bottom_not_op e f in seen k v (end d) d o.0
      go (is_op m e) =
          let x = other_tag_after (T.inserts m) (T.tag m) k (h.set v) (i.rising v) (n m e) in
          between o.0 (subst (λ (b : Bool). Witness T H k r b empty_bucket L) x (o.2 m e))
  end_placed (e117 {n = n}) o =
      last {c = get_response n} i (rely_refl T h (bucket_after T L)) refl o.0 refl (ap boolean (sym (i.done_answered n o.1).1))
  end_placed e127 o = go o.1
    where
      go : Absent p r L ⊎ ((h.op_at h.current ≡ bottom) × In (occurrence p r freeze (tag_set (h.set h.current))) L)
          → EndPlaced h freeze (tag_set (h.set h.current))
      go (inl f) =
          last {c = freeze} i (rely_refl T h (bucket_after T L)) refl f (same_frozen (i.same_ok ∙ ap changeable o.0))
          (ap tag_set (i.same_set ∙ ap (λ (x : OpField). counted_set T x (h.set h.current)) o.0))
      go (inr x) = there i (rely_refl T h (bucket_after T L)) refl x.1
  end_placed (e130 {n = n} {o = v} x) o = go o.0.2
    where
      go : (h.done n ≡ true) ⊎ (h.op_at v ≡ op n) → EndPlaced (mark_returned n h) (invoke n) (boolean true)
      go (inl d) =
          there (returned_keeps T h (bucket_after T L) i n d)
          (returned_rely T h h (bucket_after T L) (bucket_after T L) n (rely_refl T h (bucket_after T L))) refl o.1
      go (inr e) = absurd (x n e)
  end_placed (e140 {n = n} {o = v} {m = m} q) o =
      let g = advance (change T m (h.set v)) h in
      let k = advance_keeps T h (bucket_after T L) i v m o.0.0 q o.0.3 in
      there (returned_keeps T g (bucket_after T L) k n (own_done o.0.2 o.0.3))
      (returned_rely T h g (bucket_after T L) (bucket_after T L) n (advance_rely T h (bucket_after T L) i v m o.0.0 q o.0.3)) refl o.1
    where
      own_done : (h.done n ≡ true) ⊎ (m ≡ n) → h.done m ≡ true → h.done n ≡ true
      own_done (inl d) e = d
      own_done (inr q) e = ap h.done (sym q) ∙ e
  end_placed (e140_lost {n = n} {m = m} q) o =
      there (returned_keeps T h (bucket_after T L) i n (own_done o.0.2 o.0.3))
      (returned_rely T h h (bucket_after T L) (bucket_after T L) n (rely_refl T h (bucket_after T L))) refl o.1
    where
      own_done : (h.done n ≡ true) ⊎ (m ≡ n) → h.done m ≡ true → h.done n ≡ true
      own_done (inl d) e = d
      own_done (inr q) e = ap h.done (sym q) ∙ e

  -- a freeze ends only when the bucket is frozen
  pub freeze_ends_frozen : {l : Position} {g : Heap} {c : AtomicCall} {a : Result} → End T h l g c a → PositionFacts T h H L p r l → call_at l ≡ runs freeze
      → h.op_at h.current ≡ bottom
  freeze_ends_frozen (e107_yes d) o e = let z : ◌≡◌ {A = ℕ} 0 1 = cc in absurd (omega arith)
  freeze_ends_frozen (e107_no d) o e = let z : ◌≡◌ {A = ℕ} 0 1 = cc in absurd (omega arith)
  freeze_ends_frozen (e113_op d q) o e = let z : ◌≡◌ {A = ℕ} 0 1 = cc in absurd (omega arith)
  freeze_ends_frozen (e113_set d) o e = let z : ◌≡◌ {A = ℕ} 0 1 = cc in absurd (omega arith)
  freeze_ends_frozen e117 o e = let z : ◌≡◌ {A = ℕ} 0 1 = cc in absurd (omega arith)
  freeze_ends_frozen e127 o e = o.0
  freeze_ends_frozen (e130 d) o e = let z : ◌≡◌ {A = ℕ} 0 1 = cc in absurd (omega arith)
  freeze_ends_frozen (e140 d) o e = let z : ◌≡◌ {A = ℕ} 0 1 = cc in absurd (omega arith)
  freeze_ends_frozen (e140_lost d) o e = let z : ◌≡◌ {A = ℕ} 0 1 = cc in absurd (omega arith)
