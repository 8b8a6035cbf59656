-- What is known of a task at each position, and that no step of another task breaks it. Assumes nothing.
use Rattle.std.specs.Prelude.{◌≤◌, ℕ, Bool, false, true, List, ◌⊎◌, ◌≡◌}
use Rattle.std.proofs.Common.{inl, inr, ap, arith}
use Rattle.spec.specs.Lists.{member}
use Rattle.coop_spec.specs.Atomic.{AtomicCall, FSet, Operations, Result, boolean, change, empty_bucket, freeze, invoke, tag_set}
use Rattle.coop_spec.specs.History.{Ended, Occurrence}
use Rattle.coop_spec.specs.Linearizable.{Absent, In}
use Rattle.coop_model.specs.Heap.{Heap, OpField, bottom, nil, op}
use Rattle.coop_model.specs.HeapInvariant.{HeapInvariant, Rely}
use Rattle.coop_model.specs.Orders.{Witness, bucket_after, witness_last}
use Rattle.coop_model.specs.Positions.{Place, Point, Position, ReturnTo, Role, empty, holds, parts, at100, at101, at102, at107, at109, at120}
use Rattle.coop_model.specs.Positions.{at121, at122, at123, at127, at129, at130, at138, at139, at140, at95, at96, at99, freezer, invoker}
use Rattle.coop_model.specs.Positions.{member_112, member_113, no_call, response_117, running, to103, to106, to126}

abbrev pub occurrence : ℕ → ℕ → AtomicCall → Result → Occurrence
occurrence p r c a = record { task = p; start = r; call = c; result = a }

-- ---- what is known

-- of HELPFINISH's caller, given the flag and which operations the atomic bucket has done
abbrev pub ReturnFacts : Bool → (ℕ → Bool) → ReturnTo → Type 0
ReturnFacts f D (to103 n) = D n ≡ true
ReturnFacts f D to106 = Unit {0}
ReturnFacts f D to126 = f ≡ true

-- the caller's own operation is done, or is in the version that HELPFINISH has read
abbrev pub Reached : (ℕ → Bool) → (ℕ → OpField) → ReturnTo → ℕ → Type 0
Reached D own (to103 n) o = (D n ≡ true) ⊎ (own o ≡ op n)
Reached D own to106 o = Unit {0}
Reached D own to126 o = Unit {0}

-- or is the one that HELPFINISH has found
abbrev pub Toward : (ℕ → Bool) → ReturnTo → ℕ → Type 0
Toward D (to103 n) m = (D n ≡ true) ⊎ (m ≡ n)
Toward D to106 m = Unit {0}
Toward D to126 m = Unit {0}

-- o is the bucket's version or an earlier one. At 102 the operation is not done in the atomic bucket if o has none; at 107 it is done, or the
-- bucket is frozen; in DOFREEZE the flag is raised; at 138 to 140 o has the operation found, whose response, and then done, is written.
abbrev pub PointFacts : Heap → FSet → Point → Type 0
PointFacts h A at95 = Unit {0}
PointFacts h A at96 = Unit {0}
PointFacts h A at99 = Unit {0}
PointFacts h A (at100 o) = o ≤ h.current
PointFacts h A (at101 o) = o ≤ h.current
PointFacts h A (at102 n o) = (o ≤ h.current) × (h.op_at o ≡ nil → A.done n ≡ false)
PointFacts h A (at107 n) = (h.done n ≡ true) ⊎ (h.op_at h.current ≡ bottom)
PointFacts h A at109 = Unit {0}
PointFacts h A at120 = h.flag ≡ true
PointFacts h A at121 = h.flag ≡ true
PointFacts h A (at122 o) = (h.flag ≡ true) × (o ≤ h.current)
PointFacts h A (at123 o) = (h.flag ≡ true) × (o ≤ h.current)
PointFacts h A at127 = h.op_at h.current ≡ bottom
PointFacts h A (at129 b) = ReturnFacts h.flag A.done b
PointFacts h A (at130 b o) = (o ≤ h.current) × ReturnFacts h.flag A.done b × Reached h.done h.op_at b o
PointFacts h A (at138 b o m) = (h.op_at o ≡ op m) × ReturnFacts h.flag A.done b × Toward h.done b m
PointFacts h A (at139 b o m) = (h.op_at o ≡ op m) × ReturnFacts h.flag A.done b × Toward h.done b m × (h.resp m ≡ A.resp m)
PointFacts h A (at140 b o m) = (h.op_at o ≡ op m) × ReturnFacts h.flag A.done b × Toward h.done b m × (h.done m ≡ true)

-- the task's own operation has been put in
abbrev put_by_invoke : Place ReturnTo → Bool
put_by_invoke empty = false
put_by_invoke (holds (to103 n)) = true
put_by_invoke (holds to106) = false
put_by_invoke (holds to126) = false

abbrev pub op_put : Point → Bool
op_put l = put_by_invoke (parts l).back

-- where the task's call stands in the order: an invoke stands there from 102 on, a freeze may stand there once the bucket is frozen
abbrev pub InvokeInOrder : List Occurrence → ℕ → ℕ → ℕ → Bool → Type 0
InvokeInOrder L p r n true = In (occurrence p r (invoke n) (boolean true)) L
InvokeInOrder L p r n false = Absent p r L

abbrev pub InOrder : OpField → List ℕ → List Occurrence → ℕ → ℕ → Role → Bool → Type 0
InOrder m S L p r (invoker n) b = InvokeInOrder L p r n b
InOrder m S L p r freezer b = Absent p r L ⊎ ((m ≡ bottom) × In (occurrence p r freeze (tag_set S)) L)

-- T the operations' types, h the heap, H the ended calls, L the order, p the task, r its call's start. A member test at 113 has a witness for
-- what it will answer if its o has an operation.
module _ (T : Operations) where
  abbrev pub PositionFacts : Heap → List Ended → List Occurrence → ℕ → ℕ → Position → Type 0
  PositionFacts h H L p r no_call = Unit {0}
  PositionFacts h H L p r (running j l) = PointFacts h (bucket_after T L) l × InOrder (h.op_at h.current) (h.set h.current) L p r j (op_put l)
  PositionFacts h H L p r (member_112 k) = Absent p r L
  PositionFacts h H L p r (member_113 k o) =
      Absent p r L × (o ≤ h.current) × ((m : ℕ) → h.op_at o ≡ op m → Witness T H k r (member k (change T m (h.set o))) empty_bucket L)
  PositionFacts h H L p r (response_117 n) = Absent p r L × (h.done n ≡ true)

-- ---- others' steps keep it

module _ (T : Operations) (h : Heap) (A : FSet) (i : HeapInvariant T h A) (g : Heap) (B : FSet) (le : Rely T h A g B) where
  return_stays : (b : ReturnTo) → ReturnFacts h.flag A.done b → ReturnFacts g.flag B.done b
  return_stays (to103 n) o = le.claimed_stays n o
  return_stays to106 o = tt
  return_stays to126 o = le.flag_stays o

  reached_stays : (b : ReturnTo) (o : ℕ) → Reached h.done h.op_at b o → Reached g.done g.op_at b o
  reached_stays (to103 n) o (inl d) = inl (le.done_stays n d)
  reached_stays (to103 n) o (inr e) = inr (le.op_stays o n e)
  reached_stays to106 o x = tt
  reached_stays to126 o x = tt

  pub toward_stays : (b : ReturnTo) (m : ℕ) → Toward h.done b m → Toward g.done b m
  toward_stays (to103 n) m (inl d) = inl (le.done_stays n d)
  toward_stays (to103 n) m (inr e) = inr e
  toward_stays to106 m x = tt
  toward_stays to126 m x = tt

  up : (o : ℕ) → o ≤ h.current → o ≤ g.current
  up o a = let b = le.current_grows in omega arith

  pub point_stays : (l : Point) → PointFacts h A l → PointFacts g B l
  point_stays at95 o = tt
  point_stays at96 o = tt
  point_stays at99 o = tt
  point_stays (at100 v) o = up v o
  point_stays (at101 v) o = up v o
  point_stays (at102 n v) o = (up v o.0, λ e. let f = le.nil_was_nil v n o.0 e in f.1 (o.1 f.0))
  point_stays (at107 n) (inl d) = inl (le.done_stays n d)
  point_stays (at107 n) (inr e) = inr (le.bottom_stays e).0
  point_stays at109 o = tt
  point_stays at120 o = le.flag_stays o
  point_stays at121 o = le.flag_stays o
  point_stays (at122 v) o = (le.flag_stays o.0, up v o.1)
  point_stays (at123 v) o = (le.flag_stays o.0, up v o.1)
  point_stays at127 o = (le.bottom_stays o).0
  point_stays (at129 b) o = return_stays b o
  point_stays (at130 b v) o = (up v o.0, return_stays b o.1, reached_stays b v o.2)
  point_stays (at138 b v m) o = (le.op_stays v m o.0, return_stays b o.1, toward_stays b m o.2)
  point_stays (at139 b v m) o =
      (le.op_stays v m o.0, return_stays b o.1, toward_stays b m o.2, le.resp_stays m (i.claimed_done v m o.0).0 o.3)
  point_stays (at140 b v m) o = (le.op_stays v m o.0, return_stays b o.1, toward_stays b m o.2, le.done_stays m o.3)

  -- what of the order a task counts on
  module _ (L M : List Occurrence) (p r : ℕ) (keeps : (e : Occurrence) → In e L → In e M) (fresh : Absent p r L → Absent p r M) where
    pub in_order_stays : (j : Role) (b : Bool) → InOrder (h.op_at h.current) (h.set h.current) L p r j b
        → InOrder (g.op_at g.current) (g.set g.current) M p r j b
    in_order_stays (invoker n) true x = keeps _ x
    in_order_stays (invoker n) false x = fresh x
    in_order_stays freezer b (inl x) = inl (fresh x)
    in_order_stays freezer b (inr x) =
        let y = le.bottom_stays x.0 in
        inr (y.0, rw y.1 (keeps _ x.1))

module _ (T : Operations) (h : Heap) (H : List Ended) (L : List Occurrence) (i : HeapInvariant T h (bucket_after T L)) (g : Heap) (K : List Ended)
    (M : List Occurrence)
    (le : Rely T h (bucket_after T L) g (bucket_after T M)) (p r : ℕ)
    (keeps : (e : Occurrence) → In e L → In e M) (fresh : Absent p r L → Absent p r M)
    (witnesses : (k : ℕ) (v : Bool) → Witness T H k r v empty_bucket L → Witness T K k r v empty_bucket M) where
  pub facts_stay : (l : Position) → PositionFacts T h H L p r l → PositionFacts T g K M p r l
  facts_stay no_call o = tt
  facts_stay (running j l) o = (
    point_stays T h (bucket_after T L) i g (bucket_after T M) le l o.0,
    in_order_stays T h (bucket_after T L) i g
        (bucket_after T M) le L M p r keeps fresh j (op_put l) o.1,
  )
  facts_stay (member_112 k) o = fresh o
  facts_stay (member_113 k v) o = (fresh o.0, (let b = le.current_grows in let c = o.1 in omega arith), λ m e. go m (le.new_op_counted v m o.1 e))
    where
      go : (m : ℕ) → (h.op_at v ≡ op m) ⊎ ((bucket_after T M).set ≡ change T m (g.set v)) → Witness T K k r (member k (change T m (g.set v))) empty_bucket M
      go m (inl e) = rw (le.set_stays v o.1) (witnesses k _ (o.2 m e))
      go m (inr e) = witness_last T K k r _ empty_bucket M (ap (member k) e)
  facts_stay (response_117 n) o = (fresh o.0, le.done_stays n o.1)
