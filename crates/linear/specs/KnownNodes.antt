-- What a position of a call names and has taken: the nodes that its later lines go through, and the bucket of line 50 or the node of
-- line 28 that no other task knows yet. Known are the head, its predecessor, and the nodes that some task names. Assumes nothing.
use Rattle.std.specs.Prelude.{◌≡◌, ◌⊎◌, true, List, ℕ, suc, ◌≤◌}
use Rattle.model.specs.Heap.{Heap}
use Rattle.model.specs.Positions.{Fill, at_39, at_40, at_43, at_44, at_46, at_47, at_48, at_52, at_49, at_50, at_51, at_12, at_13, at_15, at_16, at_17}
use Rattle.model.specs.Positions.{at_18, Update, at_32, at_33, at_36, Resize, at_20, at_24, at_27, at_28, Position, no_call, lookup, update, resize}
use Rattle.spec.specs.History.{Ended}
use Rattle.model.specs.Filling.{InNode, FillFacts, Ready}
use Rattle.model.specs.PositionFacts.{PositionFacts}

-- ---- the nodes that a position names

abbrev pub FillNames : ℕ → Fill → ℕ → Type 0
FillNames t at_39 x = x ≡ t
FillNames t (at_40 b) x = x ≡ t
FillNames t (at_43 s) x = (x ≡ t) ⊎ (x ≡ s)
FillNames t (at_44 s) x = (x ≡ t) ⊎ (x ≡ s)
FillNames t (at_46 s) x = (x ≡ t) ⊎ (x ≡ s)
FillNames t (at_47 s) x = (x ≡ t) ⊎ (x ≡ s)
FillNames t (at_48 s) x = (x ≡ t) ⊎ (x ≡ s)
FillNames t (at_52 s) x = (x ≡ t) ⊎ (x ≡ s)
FillNames t (at_49 s) x = (x ≡ t) ⊎ (x ≡ s)
FillNames t (at_50 s) x = (x ≡ t) ⊎ (x ≡ s)
FillNames t at_51 x = x ≡ t

abbrev pub Names : Position → ℕ → Type 0
Names no_call x = ⊥
Names (lookup k at_12) x = ⊥
Names (lookup k (at_13 t)) x = x ≡ t
Names (lookup k (at_15 t)) x = x ≡ t
Names (lookup k (at_16 s)) x = x ≡ s
Names (lookup k (at_17 t)) x = x ≡ t
Names (lookup k (at_18 t)) x = x ≡ t
Names (update b k at_32) x = ⊥
Names (update b k (at_33 t)) x = x ≡ t
Names (update b k (at_36 t)) x = x ≡ t
Names (update b k (Update.filling t i l)) x = FillNames t l x
Names (resize b at_20) x = ⊥
Names (resize b (at_24 t)) x = x ≡ t
Names (resize b (at_27 t)) x = x ≡ t
Names (resize b (at_28 t n)) x = x ≡ t
Names (resize b (Resize.filling t i l)) x = FillNames t l x

pub data Known (h : Heap) (position : ℕ → Position) (x : ℕ) : Type 0 where
  head : x ≡ h.head → Known h position x
  behind : h.linked ≡ true → h.head ≡ suc x → Known h position x
  named : (p : ℕ) → Names (position p) x → Known h position x

-- ---- what a position has taken

pub data Takes : Type 0 where
  nothing : Takes
  -- a bucket for place i of t, with tags of s
  bucket : (s t i : ℕ) → Takes
  -- a node of size n, to follow t
  node : (t n : ℕ) → Takes

abbrev pub fill_takes : ℕ → ℕ → Fill → Takes
fill_takes t i at_39 = nothing
fill_takes t i (at_40 b) = nothing
fill_takes t i (at_43 s) = nothing
fill_takes t i (at_44 s) = nothing
fill_takes t i (at_46 s) = nothing
fill_takes t i (at_47 s) = nothing
fill_takes t i (at_48 s) = nothing
fill_takes t i (at_52 s) = nothing
fill_takes t i (at_49 s) = nothing
fill_takes t i (at_50 s) = bucket s t i
fill_takes t i at_51 = nothing

abbrev pub takes_at : Position → Takes
takes_at no_call = nothing
takes_at (lookup k l) = nothing
takes_at (update b k at_32) = nothing
takes_at (update b k (at_33 t)) = nothing
takes_at (update b k (at_36 t)) = nothing
takes_at (update b k (Update.filling t i l)) = fill_takes t i l
takes_at (resize b at_20) = nothing
takes_at (resize b (at_24 t)) = nothing
takes_at (resize b (at_27 t)) = nothing
takes_at (resize b (at_28 t n)) = node t n
takes_at (resize b (Resize.filling t i l)) = fill_takes t i l

abbrev pub IsBucket : Takes → Type 0
IsBucket nothing = ⊥
IsBucket (bucket s t i) = Unit {0}
IsBucket (node t n) = ⊥

abbrev pub IsNode : Takes → Type 0
IsNode nothing = ⊥
IsNode (bucket s t i) = ⊥
IsNode (node t n) = Unit {0}

pub no_bucket : {τ : Takes} → τ ≡ nothing → ¬ IsBucket τ
no_bucket e b = rw e at b

pub no_node : {τ : Takes} → τ ≡ nothing → ¬ IsNode τ
no_node e b = rw e at b

-- what the model's invariant says of a task that has taken something
abbrev pub TakesFrom : Heap → Takes → Type 0
TakesFrom h nothing = Unit {0}
TakesFrom h (bucket s t i) = (t ≤ h.head) × Ready h t i s
TakesFrom h (node t n) = t ≤ h.head

fill_takes_from : (h : Heap) (t i : ℕ) (l : Fill) → InNode h t i → FillFacts h t i l → TakesFrom h (fill_takes t i l)
fill_takes_from h t i at_39 w o = tt
fill_takes_from h t i (at_40 b) w o = tt
fill_takes_from h t i (at_43 s) w o = tt
fill_takes_from h t i (at_44 s) w o = tt
fill_takes_from h t i (at_46 s) w o = tt
fill_takes_from h t i (at_47 s) w o = tt
fill_takes_from h t i (at_48 s) w o = tt
fill_takes_from h t i (at_52 s) w o = tt
fill_takes_from h t i (at_49 s) w o = tt
fill_takes_from h t i (at_50 s) w o = (w.0, o)
fill_takes_from h t i at_51 w o = tt

pub takes_from : (h : Heap) (L : List Ended) (r : ℕ) (l : Position) → PositionFacts h L r l → TakesFrom h (takes_at l)
takes_from h L r no_call o = tt
takes_from h L r (lookup k l) o = tt
takes_from h L r (update b k at_32) o = tt
takes_from h L r (update b k (at_33 t)) o = tt
takes_from h L r (update b k (at_36 x)) o = tt
takes_from h L r (update b k (Update.filling t i l)) o = fill_takes_from h t i l o.0 o.2
takes_from h L r (resize b at_20) o = tt
takes_from h L r (resize b (at_24 t)) o = tt
takes_from h L r (resize b (at_27 t)) o = tt
takes_from h L r (resize b (at_28 t n)) o = o.0
takes_from h L r (resize b (Resize.filling t i l)) o = fill_takes_from h t i l o.0 o.2
