-- A line that ends no call leads from what is known at its position to what is known at the next one. Assumes nothing.
use Rattle.std.specs.Prelude.{ℕ, false, true, List, ◌⊎◌, ◌≡◌, refl}
use Rattle.std.proofs.Common.{inl, inr, ◌∙◌, ap, sym, le_refl, arith}
use Rattle.std.proofs.Math.Decide.{ℕ_discrete}
use Rattle.spec.specs.Lists.{member}
use Rattle.coop_spec.specs.Atomic.{FSet, Operations, change, empty_bucket, freeze}
use Rattle.coop_spec.specs.History.{Ended, Occurrence}
use Rattle.coop_spec.specs.Linearizable.{Absent}
use Rattle.coop_model.specs.Functions.{changed_same}
use Rattle.coop_model.specs.Heap.{Heap, OpField, advance, mark_done, op}
use Rattle.coop_model.specs.HeapInvariant.{HeapInvariant, Rely, counted_set, nil_is_current, not_ahead, not_done, rely_refl, same_op_number}
use Rattle.coop_model.specs.Lines.{Line, l100_nil, l100_op, l101_done, l101_on, l102_lost, l109, l112, l120_frozen, l120_on, l121, l122_nil}
use Rattle.coop_model.specs.Lines.{l122_op, l123_lost, l127, l129, l130_106, l130_126, l130_op, l138, l139, l140_106, l140_106_lost, l140_126}
use Rattle.coop_model.specs.Lines.{l140_126_lost, l95_done, l95_frozen, l95_on, l96_down, l96_up, l99}
use Rattle.coop_model.specs.Orders.{bucket_after, witness_last}
use Rattle.coop_model.specs.PositionFacts.{PositionFacts, Reached, ReturnFacts, Toward, in_order_stays, toward_stays}
use Rattle.coop_model.specs.Positions.{Point, Position, ReturnTo, Role, call_at, freezer, invoker, running, runs, to103, to106, to126}
use Rattle.coop_model.specs.Runs.{First, first_freeze, first_has, first_invoke, first_response}
use Rattle.coop_model.specs.Writes.{advance_keeps, advance_rely, done_keeps, done_rely, raise_keeps, raise_rely, respond_is, respond_keeps, respond_rely}

-- a line keeps the heap invariant, does what others rely on, goes on with its call, and raises the flag only in a freeze
pub record LineKeeps (T : Operations) (h : Heap) (A : FSet) (g : Heap) (l l' : Position) : Type 0 where
  pub kept : HeapInvariant T g A
  pub rely : Rely T h A g A
  pub call≡ : call_at l' ≡ call_at l
  pub raised : g.flag ≡ true → (h.flag ≡ true) ⊎ (call_at l' ≡ runs freeze)

-- whoever runs it, the point is no part of the call
same_call : (j : Role) (a b : Point) → call_at (running j a) ≡ call_at (running j b)
same_call (invoker n) a b = refl
same_call freezer a b = refl

module _ (T : Operations) (h : Heap) (H : List Ended) (L : List Occurrence) (i : HeapInvariant T h (bucket_after T L)) (p r : ℕ) where
  still : (l l' : Position) → call_at l' ≡ call_at l → LineKeeps T h (bucket_after T L) h l l'
  still l l' c = record { kept = i; rely = rely_refl T h (bucket_after T L); call≡ = c; raised = λ e. inl e }

  reach : (b : ReturnTo) → ReturnFacts h.flag (bucket_after T L).done b → Reached h.done h.op_at b h.current
  reach (to103 n) o = go (i.done_claimed n o)
    where
      go : ((v : ℕ) × (h.op_at v ≡ op n)) → (h.done n ≡ true) ⊎ (h.op_at h.current ≡ op n)
      go (v, e) = at (ℕ_discrete v h.current)
        where
          at : Dec (v ≡ h.current) → (h.done n ≡ true) ⊎ (h.op_at h.current ≡ op n)
          at (yes q) = inr (ap h.op_at (sym q) ∙ e)
          at (no d) =
              let le = not_ahead T h (bucket_after T L) i v n e in
              let x = i.past_done v (omega arith) in
              inl (ap h.done (same_op_number e x.1) ∙ x.2)
  reach to106 o = tt
  reach to126 o = tt

  found : (b : ReturnTo) (o m : ℕ) → h.op_at o ≡ op m → Reached h.done h.op_at b o → Toward h.done b m
  found (to103 n) o m e (inl d) = inl d
  found (to103 n) o m e (inr f) = inr (same_op_number e f)
  found to106 o m e x = tt
  found to126 o m e x = tt

  pub own_line : {l l' : Position} {g : Heap} → Line T h l g l' → PositionFacts T h H L p r l
      → LineKeeps T h (bucket_after T L) g l l' × PositionFacts T g H L p r l'
  own_line (l95_on x d) o = (still _ _ refl, (tt, o.1))
  own_line (l95_done d) o = (still _ _ refl, (inl d, o.1))
  own_line (l95_frozen e) o = (still _ _ refl, (inr e, o.1))
  own_line (l96_up f) o = (still _ _ refl, (f, o.1))
  own_line (l96_down f) o = (still _ _ refl, (tt, o.1))
  own_line l99 o = (still _ _ refl, (le_refl _, o.1))
  own_line (l100_nil e) o = (still _ _ refl, o)
  own_line (l100_op e) o = (still _ _ refl, (tt, o.1))
  own_line (l101_on {n = n} {o = v} d) o = (
    still _ _ refl,
    (
      (
        o.0,
        λ e. let q = nil_is_current T h (bucket_after T L) i v o.0 e in not_done T h (bucket_after T L) i n d
            (inl (ap h.op_at (sym q) ∙ e)),
      ),
      o.1,
    ),
  )
  own_line (l101_done d) o = (still _ _ refl, (tt, o.1))
  own_line (l102_lost e) o = (still _ _ refl, (tt, o.1))
  own_line l109 o =
      (record { kept = raise_keeps T h (bucket_after T L) i; rely = raise_rely T h (bucket_after T L) i; call≡ = refl; raised = λ e. inr refl }, (refl, o.1))
  own_line (l112 {k = k}) o = (
    still _ _ refl,
    (
      o,
      le_refl _,
      λ m e. witness_last T H k r _ empty_bucket L
          (ap (member k) (i.same_set ∙ ap (λ (x : OpField). counted_set T x (h.set h.current)) e)),
    ),
  )
  own_line (l120_frozen {j = j} e) o = (still _ _ (same_call j _ _), (e, o.1))
  own_line (l120_on {j = j} e) o = (still _ _ (same_call j _ _), o)
  own_line (l121 {j = j}) o = (still _ _ (same_call j _ _), ((o.0, le_refl _), o.1))
  own_line (l122_nil {j = j} e) o = (still _ _ (same_call j _ _), o)
  own_line (l122_op {j = j} e) o = (still _ _ (same_call j _ _), (o.0.0, o.1))
  own_line (l123_lost {j = j} e) o = (still _ _ (same_call j _ _), (o.0.0, o.1))
  own_line l127 o = (still _ _ refl, (inr o.0, o.1))
  own_line (l129 {j = j} {b = b}) o = (still _ _ (same_call j _ _), ((le_refl _, o.0, reach b o.0), o.1))
  own_line (l130_op {j = j} {b = b} {o = v} {m = m} e) o = (still _ _ (same_call j _ _), ((e, o.0.1, found b v m e o.0.2), o.1))
  own_line (l130_106 x) o = (still _ _ refl, (tt, o.1))
  own_line (l130_126 {j = j} x) o = (still _ _ (same_call j _ _), (o.0.1, o.1))
  own_line (l138 {j = j} {b = b} {o = v} {m = m}) o =
      let e = o.0.0 in (
        record {
          kept = respond_keeps T h (bucket_after T L) i v m e;
          rely = respond_rely T h (bucket_after T L) i v m e;
          call≡ = same_call j _ _;
          raised = λ f. inl f;
        },
        ((e, o.0.1, o.0.2, respond_is T h (bucket_after T L) i v m e), o.1),
      )
  own_line (l139 {j = j} {b = b} {o = v} {m = m}) o =
      let e = o.0.0 in
      let le = done_rely T h (bucket_after T L) i v m e in (
        record { kept = done_keeps T h (bucket_after T L) i v m e o.0.3; rely = le; call≡ = same_call j _ _; raised = λ f. inl f },
        ((e, o.0.1, toward_stays T h (bucket_after T L) i (mark_done m h) (bucket_after T L) le b m o.0.2, changed_same h.done m true), o.1),
      )
  own_line (l140_106 {n = n} {o = v} {m = m} q) o =
      let le = advance_rely T h (bucket_after T L) i v m o.0.0 q o.0.3 in
      (record { kept = advance_keeps T h (bucket_after T L) i v m o.0.0 q o.0.3; rely = le; call≡ = refl; raised = λ f. inl f }, (tt, o.1))
  own_line (l140_126 {j = j} {o = v} {m = m} q) o =
      let le = advance_rely T h (bucket_after T L) i v m o.0.0 q o.0.3 in (
        record { kept = advance_keeps T h (bucket_after T L) i v m o.0.0 q o.0.3; rely = le; call≡ = same_call j _ _; raised = λ f. inl f },
        (o.0.1, in_order_stays T h (bucket_after T L) i (advance (change T m (h.set v)) h) (bucket_after T L) le L L p r (λ e x. x) (λ x. x) j false o.1),
      )
  own_line (l140_106_lost d) o = (still _ _ refl, (tt, o.1))
  own_line (l140_126_lost {j = j} d) o = (still _ _ (same_call j _ _), (o.0.1, o.1))

  -- the first line of a call
  pub first_facts : {l : Position} → First h l → Absent p r L → PositionFacts T h H L p r l
  first_facts (first_invoke n s) f = (tt, f)
  first_facts first_freeze f = (tt, inl f)
  first_facts (first_has k) f = f
  first_facts (first_response n w) f = (f, i.returned_done n w)
