-- A task's record stands for a position of the model: line by line, what its fields say. Own steps are no part of it. Assumes nothing.
use Rattle.std.specs.Prelude.{◌≡◌, refl, ◌⊎◌, Bool, true, false, ℕ, ◌+◌, ◌*◌, ◌%◌}
use Rattle.std.proofs.Common.{◌∙◌}
use Rattle.spec.specs.declared.Task.{Task}
use Rattle.spec.specs.Machine.{with_own}
use Rattle.spec.specs.Words.{link}
use Rattle.model.specs.Heap.{Heap, slot_in}
use Rattle.model.specs.Positions.{Fill, at_39, at_40, at_43, at_44, at_46, at_47, at_48, at_52, at_49, at_50, at_51, Lookup, at_12, at_13, at_15, at_16}
use Rattle.model.specs.Positions.{at_17, at_18, Update, at_32, at_33, at_36, Resize, at_20, at_24, at_27, at_28, Position, no_call, lookup, update, resize}
use Rattle.laws.specs.Tests.{tf}
use Rattle.linear.specs.Represents.{Records}

-- ---- what the record says

-- a running task's call, tag and line
pub record CallFields (c : Task) (call tag line : ℕ) : Type 0 where
  pub runs : c.running ≡ true
  pub call≡ : c.call ≡ call
  pub tag≡ : c.tag ≡ tag
  pub line≡ : c.line ≡ line

-- the same call at the line where its record now stands
pub at_line : {c d : Task} {call tag line : ℕ} → CallFields c call tag line → d.running ≡ c.running → d.call ≡ c.call → d.tag ≡ c.tag
    → CallFields d call tag d.line
at_line j r k t = record { runs = r ∙ j.runs; call≡ = k ∙ j.call≡; tag≡ = t ∙ j.tag≡; line≡ = refl }

-- the number of an insert (true) or remove (false); of a grow (true) or shrink (false); the sizes from which that may go on
abbrev pub update_call : Bool → ℕ
update_call true = 1
update_call false = 2

abbrev pub resize_call : Bool → ℕ
resize_call true = 4
resize_call false = 5

abbrev pub MayResize : Bool → ℕ → Type 0
MayResize true n = ¬ (n ≡ 32)
MayResize false n = ¬ (n ≡ 1)

-- the line at which a position stands; 0 where no call runs
abbrev pub fill_line : Fill → ℕ
fill_line at_39 = 39
fill_line (at_40 b) = 40
fill_line (at_43 s) = 43
fill_line (at_44 s) = 44
fill_line (at_46 s) = 46
fill_line (at_47 s) = 47
fill_line (at_48 s) = 48
fill_line (at_52 s) = 52
fill_line (at_49 s) = 49
fill_line (at_50 s) = 50
fill_line at_51 = 51

abbrev pub line_at : Position → ℕ
line_at no_call = 0
line_at (lookup k at_12) = 12
line_at (lookup k (at_13 t)) = 13
line_at (lookup k (at_15 t)) = 15
line_at (lookup k (at_16 s)) = 16
line_at (lookup k (at_17 t)) = 17
line_at (lookup k (at_18 x)) = 18
line_at (update b k at_32) = 32
line_at (update b k (at_33 t)) = 33
line_at (update b k (at_36 x)) = 36
line_at (update b k (Update.filling t i l)) = fill_line l
line_at (resize b at_20) = 20
line_at (resize b (at_24 t)) = 24
line_at (resize b (at_27 t)) = 27
line_at (resize b (at_28 t n)) = 28
line_at (resize b (Resize.filling t i l)) = fill_line l

module _ (h : Heap) (R : Records) where
  -- m and n of a task that fills place i of t from s: on a grow one bucket of s, on a shrink two
  abbrev pub FromOne : ℕ → ℕ → ℕ → Task → Type 0
  FromOne s t i c = (h.size t ≡ 2 * h.size s) × (c.m ≡ link (R.bucket s (i % h.size s))) × (c.n ≡ 0)

  abbrev pub FromTwo : ℕ → ℕ → ℕ → Task → Type 0
  FromTwo s t i c = (h.size s ≡ 2 * h.size t) × (c.m ≡ link (R.bucket s i)) × (c.n ≡ link (R.bucket s (i + h.size t)))

  -- what the lines that fill place i of t have put into b, s, m and n
  abbrev pub FillFields : ℕ → ℕ → Fill → Task → Type 0
  FillFields t i at_39 c = c.n ≡ 0
  FillFields t i (at_40 b) c = (c.n ≡ 0) × (b ≡ true → ¬ (c.b ≡ 0)) × (b ≡ false → c.b ≡ 0)
  FillFields t i (at_43 s) c = (c.n ≡ 0) × (c.s ≡ link (R.node s))
  FillFields t i (at_44 s) c = (c.n ≡ 0) × (c.s ≡ link (R.node s)) × (c.m ≡ link (R.bucket s (i % h.size s)))
  FillFields t i (at_46 s) c = c.s ≡ link (R.node s)
  FillFields t i (at_47 s) c = (c.s ≡ link (R.node s)) × (c.m ≡ link (R.bucket s i))
  FillFields t i (at_48 s) c = (c.s ≡ link (R.node s)) × FromTwo s t i c
  FillFields t i (at_52 s) c = (c.s ≡ link (R.node s)) × FromTwo s t i c
  FillFields t i (at_49 s) c = (c.s ≡ link (R.node s)) × (FromOne s t i c ⊎ FromTwo s t i c)
  FillFields t i (at_50 s) c = c.s ≡ link (R.node s)
  FillFields t i at_51 c = Unit {0}

  pub record FillMatches (call tag t i : ℕ) (l : Fill) (c : Task) : Type 0 where
    pub call_fields : CallFields c call tag (fill_line l)
    pub t≡ : c.t ≡ link (R.node t)
    pub i≡ : c.i ≡ i
    pub fields : FillFields t i l c

  -- at 18 the task still has the bucket's node in t or in s: so that node is held
  abbrev pub LookupMatches : ℕ → Lookup → Task → Type 0
  LookupMatches k at_12 c = CallFields c 3 k 12
  LookupMatches k (at_13 t) c = CallFields c 3 k 13 × (c.t ≡ link (R.node t))
  LookupMatches k (at_15 t) c = CallFields c 3 k 15 × (c.t ≡ link (R.node t))
  LookupMatches k (at_16 s) c = CallFields c 3 k 16 × (c.s ≡ link (R.node s))
  LookupMatches k (at_17 t) c = CallFields c 3 k 17 × (c.t ≡ link (R.node t))
  LookupMatches k (at_18 x) c = CallFields c 3 k 18 × (c.b ≡ link (R.bucket x (slot_in h x k))) × ((c.t ≡ link (R.node x)) ⊎ (c.s ≡ link (R.node x)))

  abbrev pub UpdateMatches : Bool → ℕ → Update → Task → Type 0
  UpdateMatches b k at_32 c = CallFields c (update_call b) k 32 × (c.n ≡ 0)
  UpdateMatches b k (at_33 t) c = CallFields c (update_call b) k 33 × (c.t ≡ link (R.node t)) × (c.n ≡ 0)
  UpdateMatches b k (at_36 x) c = CallFields c (update_call b) k 36 × (c.t ≡ link (R.node x)) × (c.b ≡ link (R.bucket x (slot_in h x k)))
  UpdateMatches b k (Update.filling t i l) c = FillMatches (update_call b) k t i l c

  abbrev pub ResizeMatches : Bool → Resize → Task → Type 0
  ResizeMatches b at_20 c = CallFields c (resize_call b) 0 20 × (c.n ≡ 0)
  ResizeMatches b (at_24 t) c = CallFields c (resize_call b) 0 24 × (c.t ≡ link (R.node t)) × MayResize b (h.size t)
  ResizeMatches b (at_27 t) c = CallFields c (resize_call b) 0 27 × (c.t ≡ link (R.node t)) × MayResize b (h.size t)
  ResizeMatches b (at_28 t n) c = CallFields c (resize_call b) 0 28 × (c.t ≡ link (R.node t))
  ResizeMatches b (Resize.filling t i l) c = FillMatches (resize_call b) 0 t i l c × MayResize b (h.size t)

  abbrev pub Matches : Position → Task → Type 0
  Matches no_call c = c.running ≡ false
  Matches (lookup k l) c = LookupMatches k l c
  Matches (update b k l) c = UpdateMatches b k l c
  Matches (resize b l) c = ResizeMatches b l c

-- ---- own steps are no part of it

call_fields_own : {c : Task} {call tag line : ℕ} (n : ℕ) → CallFields c call tag line → CallFields (with_own n c) call tag line
unfolding with_own
call_fields_own n j = record { runs = j.runs; call≡ = j.call≡; tag≡ = j.tag≡; line≡ = j.line≡ }

module _ (h : Heap) (R : Records) (c : Task) (n : ℕ) where
  fill_matches_own : {call tag t i : ℕ} (l : Fill) → FillMatches h R call tag t i l c → FillMatches h R call tag t i l (with_own n c)
  unfolding with_own
  fill_matches_own at_39 m = record { call_fields = call_fields_own n m.call_fields; t≡ = m.t≡; i≡ = m.i≡; fields = m.fields }
  fill_matches_own (at_40 b) m = record { call_fields = call_fields_own n m.call_fields; t≡ = m.t≡; i≡ = m.i≡; fields = m.fields }
  fill_matches_own (at_43 s) m = record { call_fields = call_fields_own n m.call_fields; t≡ = m.t≡; i≡ = m.i≡; fields = m.fields }
  fill_matches_own (at_44 s) m = record { call_fields = call_fields_own n m.call_fields; t≡ = m.t≡; i≡ = m.i≡; fields = m.fields }
  fill_matches_own (at_46 s) m = record { call_fields = call_fields_own n m.call_fields; t≡ = m.t≡; i≡ = m.i≡; fields = m.fields }
  fill_matches_own (at_47 s) m = record { call_fields = call_fields_own n m.call_fields; t≡ = m.t≡; i≡ = m.i≡; fields = m.fields }
  fill_matches_own (at_48 s) m = record { call_fields = call_fields_own n m.call_fields; t≡ = m.t≡; i≡ = m.i≡; fields = m.fields }
  fill_matches_own (at_52 s) m = record { call_fields = call_fields_own n m.call_fields; t≡ = m.t≡; i≡ = m.i≡; fields = m.fields }
  fill_matches_own (at_49 s) m = record { call_fields = call_fields_own n m.call_fields; t≡ = m.t≡; i≡ = m.i≡; fields = m.fields }
  fill_matches_own (at_50 s) m = record { call_fields = call_fields_own n m.call_fields; t≡ = m.t≡; i≡ = m.i≡; fields = m.fields }
  fill_matches_own at_51 m = record { call_fields = call_fields_own n m.call_fields; t≡ = m.t≡; i≡ = m.i≡; fields = m.fields }

  pub matches_own : (l : Position) → Matches h R l c → Matches h R l (with_own n c)
  unfolding with_own
  matches_own no_call m = m
  matches_own (lookup k at_12) m = call_fields_own n m
  matches_own (lookup k (at_13 t)) m = (call_fields_own n m.0, m.1)
  matches_own (lookup k (at_15 t)) m = (call_fields_own n m.0, m.1)
  matches_own (lookup k (at_16 t)) m = (call_fields_own n m.0, m.1)
  matches_own (lookup k (at_17 t)) m = (call_fields_own n m.0, m.1)
  matches_own (lookup k (at_18 t)) m = (call_fields_own n m.0, m.1, m.2)
  matches_own (update b k at_32) m = (call_fields_own n m.0, m.1)
  matches_own (update b k (at_33 t)) m = (call_fields_own n m.0, m.1, m.2)
  matches_own (update b k (at_36 t)) m = (call_fields_own n m.0, m.1, m.2)
  matches_own (update b k (Update.filling t i l)) m = fill_matches_own l m
  matches_own (resize b at_20) m = (call_fields_own n m.0, m.1)
  matches_own (resize b (at_24 t)) m = (call_fields_own n m.0, m.1, m.2)
  matches_own (resize b (at_27 t)) m = (call_fields_own n m.0, m.1, m.2)
  matches_own (resize b (at_28 t s)) m = (call_fields_own n m.0, m.1)
  matches_own (resize b (Resize.filling t i l)) m = (fill_matches_own l m.0, m.1)

-- a task that runs nothing rests in the model
module _ (h : Heap) (R : Records) (c : Task) (e : c.running ≡ false) where
  pub idle_no_call : (l : Position) → Matches h R l c → l ≡ no_call
  idle_no_call no_call m = refl
  idle_no_call (lookup k at_12) m = absurd (tf m.runs e)
  idle_no_call (lookup k (at_13 t)) m = absurd (tf m.0.runs e)
  idle_no_call (lookup k (at_15 t)) m = absurd (tf m.0.runs e)
  idle_no_call (lookup k (at_16 t)) m = absurd (tf m.0.runs e)
  idle_no_call (lookup k (at_17 t)) m = absurd (tf m.0.runs e)
  idle_no_call (lookup k (at_18 t)) m = absurd (tf m.0.runs e)
  idle_no_call (update u k at_32) m = absurd (tf m.0.runs e)
  idle_no_call (update u k (at_33 t)) m = absurd (tf m.0.runs e)
  idle_no_call (update u k (at_36 t)) m = absurd (tf m.0.runs e)
  idle_no_call (update u k (Update.filling t i l)) m = absurd (tf m.call_fields.runs e)
  idle_no_call (resize u at_20) m = absurd (tf m.0.runs e)
  idle_no_call (resize u (at_24 t)) m = absurd (tf m.0.runs e)
  idle_no_call (resize u (at_27 t)) m = absurd (tf m.0.runs e)
  idle_no_call (resize u (at_28 t n)) m = absurd (tf m.0.runs e)
  idle_no_call (resize u (Resize.filling t i l)) m = absurd (tf m.0.call_fields.runs e)

-- a task that runs stands at its position's line
module _ (h : Heap) (R : Records) (c : Task) (e : c.running ≡ true) where
  pub running_call : (l : Position) → Matches h R l c → ¬ (l ≡ no_call)
  running_call l m q = tf e (rw q at m)

  pub matches_line : (l : Position) → Matches h R l c → c.line ≡ line_at l
  matches_line no_call m = absurd (tf e m)
  matches_line (lookup k at_12) m = m.line≡
  matches_line (lookup k (at_13 t)) m = m.0.line≡
  matches_line (lookup k (at_15 t)) m = m.0.line≡
  matches_line (lookup k (at_16 t)) m = m.0.line≡
  matches_line (lookup k (at_17 t)) m = m.0.line≡
  matches_line (lookup k (at_18 t)) m = m.0.line≡
  matches_line (update u k at_32) m = m.0.line≡
  matches_line (update u k (at_33 t)) m = m.0.line≡
  matches_line (update u k (at_36 t)) m = m.0.line≡
  matches_line (update u k (Update.filling t i l)) m = m.call_fields.line≡
  matches_line (resize u at_20) m = m.0.line≡
  matches_line (resize u (at_24 t)) m = m.0.line≡
  matches_line (resize u (at_27 t)) m = m.0.line≡
  matches_line (resize u (at_28 t n)) m = m.0.line≡
  matches_line (resize u (Resize.filling t i l)) m = m.0.call_fields.line≡
