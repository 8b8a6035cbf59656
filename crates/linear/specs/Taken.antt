-- What a task has taken and not yet put in place: a bucket whose tags are those that the place is to have, or a node that is to
-- follow t, in a record that no known node or bucket has. Known nodes and their buckets are held, so that none of their records
-- is taken. Assumes nothing.
use Rattle.std.specs.Prelude.{◌≡◌, ◌⊎◌, true, false, ℕ}
use Rattle.std.proofs.Common.{sym, ap, inl, inr}
use Rattle.spec.specs.declared.Task.{Task}
use Rattle.spec.specs.Machine.{Machine, task_of}
use Rattle.spec.specs.Words.{link}
use Rattle.laws.specs.SoundFacts.{SoundFacts}
use Rattle.laws.specs.Held.{HeldNode, the_head, as_t, as_s, before}
use Rattle.model.specs.Heap.{Heap}
use Rattle.model.specs.Positions.{Fill, at_39, at_40, at_43, at_44, at_46, at_47, at_48, at_52, at_49, at_50, at_51, at_12, at_13, at_15, at_16, at_17}
use Rattle.model.specs.Positions.{at_18, Update, at_32, at_33, at_36, Resize, at_20, at_24, at_27, at_28, Position, no_call, lookup, update, resize}
use Rattle.linear.specs.Represents.{Represents, NewBucket, NewNode, Records}
use Rattle.linear.specs.KnownNodes.{FillNames, Names, Known, Takes, takes_at, nothing, bucket, node, head, behind, named}
use Rattle.linear.specs.Matches.{update_call, resize_call, FillMatches, Matches, idle_no_call}
use Rattle.laws.specs.Tests.{bool?}

abbrev pub Taken : Machine → Heap → (ℕ → Type 0) → Records → Takes → Task → Type 0
Taken y h K R nothing c = Unit {0}
Taken y h K R (bucket s t i) c = (r : ℕ) × (c.new_bucket ≡ link r) × NewBucket y h K R s t i r
Taken y h K R (node t n) c = (r : ℕ) × (c.new_node ≡ link r) × NewNode y K R t n r

-- who has taken something runs
pub taker_runs : (h : Heap) (R : Records) (c : Task) (l : Position) → Matches h R l c → ¬ (takes_at l ≡ nothing) → c.running ≡ true
taker_runs h R c l m n = go (bool? c.running)
  where
    go : (c.running ≡ true) ⊎ (c.running ≡ false) → c.running ≡ true
    go (inl e) = e
    go (inr e) = absurd (n (ap takes_at (idle_no_call h R c e l m)))

-- ---- what is named is held

-- the task holds node x by its t or by its s
pub data HoldsNode (R : Records) (c : Task) (x : ℕ) : Type 0 where
  by_t : c.running ≡ true → c.t ≡ link (R.node x) → HoldsNode R c x
  by_s : c.running ≡ true → c.s ≡ link (R.node x) → HoldsNode R c x

module _ (h : Heap) (R : Records) (c : Task) (x : ℕ) where
  fill_holds : (call k t i : ℕ) (l : Fill) → FillMatches h R call k t i l c → FillNames t l x → HoldsNode R c x
  fill_holds call k t i at_39 m e = by_t m.call_fields.runs (rw e m.t≡)
  fill_holds call k t i (at_40 b) m e = by_t m.call_fields.runs (rw e m.t≡)
  fill_holds call k t i (at_43 s) m (inl e) = by_t m.call_fields.runs (rw e m.t≡)
  fill_holds call k t i (at_43 s) m (inr e) = by_s m.call_fields.runs (rw e m.fields.1)
  fill_holds call k t i (at_44 s) m (inl e) = by_t m.call_fields.runs (rw e m.t≡)
  fill_holds call k t i (at_44 s) m (inr e) = by_s m.call_fields.runs (rw e m.fields.1)
  fill_holds call k t i (at_46 s) m (inl e) = by_t m.call_fields.runs (rw e m.t≡)
  fill_holds call k t i (at_46 s) m (inr e) = by_s m.call_fields.runs (rw e m.fields)
  fill_holds call k t i (at_47 s) m (inl e) = by_t m.call_fields.runs (rw e m.t≡)
  fill_holds call k t i (at_47 s) m (inr e) = by_s m.call_fields.runs (rw e m.fields.0)
  fill_holds call k t i (at_48 s) m (inl e) = by_t m.call_fields.runs (rw e m.t≡)
  fill_holds call k t i (at_48 s) m (inr e) = by_s m.call_fields.runs (rw e m.fields.0)
  fill_holds call k t i (at_52 s) m (inl e) = by_t m.call_fields.runs (rw e m.t≡)
  fill_holds call k t i (at_52 s) m (inr e) = by_s m.call_fields.runs (rw e m.fields.0)
  fill_holds call k t i (at_49 s) m (inl e) = by_t m.call_fields.runs (rw e m.t≡)
  fill_holds call k t i (at_49 s) m (inr e) = by_s m.call_fields.runs (rw e m.fields.0)
  fill_holds call k t i (at_50 s) m (inl e) = by_t m.call_fields.runs (rw e m.t≡)
  fill_holds call k t i (at_50 s) m (inr e) = by_s m.call_fields.runs (rw e m.fields)
  fill_holds call k t i at_51 m e = by_t m.call_fields.runs (rw e m.t≡)

  pub names_held : (l : Position) → Matches h R l c → Names l x → HoldsNode R c x
  names_held no_call m e = absurd e
  names_held (lookup k at_12) m e = absurd e
  names_held (lookup k (at_13 t)) m e = by_t m.0.runs (rw e m.1)
  names_held (lookup k (at_15 t)) m e = by_t m.0.runs (rw e m.1)
  names_held (lookup k (at_16 t)) m e = by_s m.0.runs (rw e m.1)
  names_held (lookup k (at_17 t)) m e = by_t m.0.runs (rw e m.1)
  names_held (lookup k (at_18 t)) m e = go m.2
    where
      go : (c.t ≡ link (R.node t)) ⊎ (c.s ≡ link (R.node t)) → HoldsNode R c x
      go (inl q) = by_t m.0.runs (rw e q)
      go (inr q) = by_s m.0.runs (rw e q)
  names_held (update b k at_32) m e = absurd e
  names_held (update b k (at_33 t)) m e = by_t m.0.runs (rw e m.1)
  names_held (update b k (at_36 t)) m e = by_t m.0.runs (rw e m.1)
  names_held (update b k (Update.filling t i l)) m e = fill_holds (update_call b) k t i l m e
  names_held (resize b at_20) m e = absurd e
  names_held (resize b (at_24 t)) m e = by_t m.0.runs (rw e m.1)
  names_held (resize b (at_27 t)) m e = by_t m.0.runs (rw e m.1)
  names_held (resize b (at_28 t n)) m e = by_t m.0.runs (rw e m.1)
  names_held (resize b (Resize.filling t i l)) m e = fill_holds (resize_call b) 0 t i l m.0 e

module _ {y : Machine} {h : Heap} {position : ℕ → Position} {R : Records} (f : SoundFacts y) (rep : Represents y h
    (Known h position) R) (job : (p : ℕ) → Matches h R (position p) (task_of y p)) where
  pub known_held : (x : ℕ) → Known h position x → HeldNode y (R.node x)
  known_held x (head e) = rw e (the_head (sym rep.head≡))
  known_held x (behind l e) = before (R.node h.head) (the_head (sym rep.head≡)) (rep.pred_some l x e)
  known_held x (named p n) = go (names_held h R (task_of y p) x (position p) (job p) n)
    where
      go : HoldsNode R (task_of y p) x → HeldNode y (R.node x)
      go (by_t r e) = as_t p r e
      go (by_s r e) = as_s p r e
