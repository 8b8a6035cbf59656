-- The heap invariant: the heap stands as the atomic bucket of Figure 1, the operation in its version being counted as done. And what waiting
-- tasks rely on from any step of another. Assumes nothing.
use Rattle.std.specs.Prelude.{◌<◌, ◌≤◌, ℕ, Bool, ◌&&◌, List, ◌⊎◌, ◌≡◌, length}
use Rattle.std.proofs.Math.Bool.{cond, false, true}
use Rattle.std.proofs.Common.{inl, inr, ◌∙◌, ap, le_refl, arith}
use Rattle.std.proofs.Math.Path.{refl}
use Rattle.std.proofs.Math.Decide.{dec_le, ℕ_discrete}
use Rattle.laws.specs.Ascending.{Rising}
use Rattle.laws.specs.Tests.{bool?, tf}
use Rattle.coop_spec.specs.Atomic.{FSet, Operations, change, invoked, performed, reply}
use Rattle.coop_model.specs.Heap.{Heap, OpField, bottom, nil, op}

pub nil_not_op : {m : OpField} {n : ℕ} → m ≡ nil → m ≡ op n → ⊥
nil_not_op e f = let z : ◌≡◌ {A = ℕ} 0 1 = cc in omega arith

pub nil_not_bottom : {m : OpField} → m ≡ nil → m ≡ bottom → ⊥
nil_not_bottom e f = let z : ◌≡◌ {A = ℕ} 0 1 = cc in omega arith

pub bottom_not_op : {m : OpField} {n : ℕ} → m ≡ bottom → m ≡ op n → ⊥
bottom_not_op e f = let z : ◌≡◌ {A = ℕ} 0 1 = cc in omega arith

pub same_op_number : {m : OpField} {n i : ℕ} → m ≡ op n → m ≡ op i → n ≡ i
same_op_number e f = cc

pub data Kind (m : OpField) : Type 0 where
  is_nil : m ≡ nil → Kind m
  is_bottom : m ≡ bottom → Kind m
  is_op : (n : ℕ) → m ≡ op n → Kind m

pub kind : (m : OpField) → Kind m
kind nil = is_nil refl
kind bottom = is_bottom refl
kind (op n) = is_op n refl

-- what the atomic bucket's ok and set are, given the op of the bucket's version: an operation there is counted
abbrev pub changeable : OpField → Bool
changeable nil = true
changeable bottom = false
changeable (op n) = true

abbrev pub counted_set : Operations → OpField → List ℕ → List ℕ
counted_set T nil S = S
counted_set T bottom S = S
counted_set T (op n) S = change T n S

module _ (T : Operations) (n : ℕ) (A : FSet) where
  pub invoked_new : A.ok ≡ true → A.done n ≡ false → invoked T n A ≡ performed T n A
  unfolding invoked
  invoked_new o d = rw (o, d)

  pub invoked_old : A.done n ≡ true → invoked T n A ≡ A
  unfolding invoked
  invoked_old d = rw d (go A.ok)
    where
      go : (b : Bool) → cond (b && false) (performed T n A) A ≡ A
      go true = refl
      go false = refl

  pub invoked_shut : A.ok ≡ false → invoked T n A ≡ A
  unfolding invoked
  invoked_shut o = rw o

-- ---- the invariant: T the operations' types, h the heap, A the atomic bucket

pub record HeapInvariant (T : Operations) (h : Heap) (A : FSet) : Type 0 where
  pub same_ok : A.ok ≡ changeable (h.op_at h.current)
  pub same_set : A.set ≡ counted_set T (h.op_at h.current) (h.set h.current)
  -- every version before the bucket's has an operation, which is done; none after it has
  pub past_done : (v : ℕ) → v < h.current → (m : ℕ) × (h.op_at v ≡ op m) × (h.done m ≡ true)
  pub ahead_nil : (v : ℕ) → h.current < v → h.op_at v ≡ nil
  -- an operation in a version is done in the atomic bucket, with the response that the version's set gives; and back
  pub claimed_done : (v m : ℕ) → h.op_at v ≡ op m → (A.done m ≡ true) × (A.resp m ≡ reply T m (h.set v))
  pub done_claimed : (m : ℕ) → A.done m ≡ true → (v : ℕ) × (h.op_at v ≡ op m)
  -- one that is done has that response too
  pub done_answered : (m : ℕ) → h.done m ≡ true → (A.done m ≡ true) × (h.resp m ≡ A.resp m)
  pub returned_done : (m : ℕ) → h.returned m ≡ true → h.done m ≡ true
  -- at most once: no two versions have the same operation
  pub one_version : (v u m : ℕ) → h.op_at v ≡ op m → h.op_at u ≡ op m → v ≡ u
  -- no more tags than versions before
  pub rising : (v : ℕ) → Rising (h.set v)
  pub few_tags : (v : ℕ) → v ≤ h.current → length (h.set v) ≤ v
  pub numbers_low : (v m : ℕ) → h.op_at v ≡ op m → m < 64

-- ---- what waiting tasks rely on, from the heap h and atomic bucket A to g and B

pub record Rely (T : Operations) (h : Heap) (A : FSet) (g : Heap) (B : FSet) : Type 0 where
  pub current_grows : h.current ≤ g.current
  pub flag_stays : h.flag ≡ true → g.flag ≡ true
  pub done_stays : (n : ℕ) → h.done n ≡ true → g.done n ≡ true
  pub claimed_stays : (n : ℕ) → A.done n ≡ true → B.done n ≡ true
  pub op_stays : (v m : ℕ) → h.op_at v ≡ op m → g.op_at v ≡ op m
  pub bottom_stays : h.op_at h.current ≡ bottom → (g.op_at g.current ≡ bottom) × (g.set g.current ≡ h.set h.current)
  pub nil_was_nil : (v n : ℕ) → v ≤ h.current → g.op_at v ≡ nil → (h.op_at v ≡ nil) × (A.done n ≡ false → B.done n ≡ false)
  pub resp_stays : (m : ℕ) → A.done m ≡ true → h.resp m ≡ A.resp m → g.resp m ≡ B.resp m
  pub set_stays : (v : ℕ) → v ≤ h.current → g.set v ≡ h.set v
  pub new_op_counted : (v m : ℕ) → v ≤ h.current → g.op_at v ≡ op m → (h.op_at v ≡ op m) ⊎ (B.set ≡ change T m (g.set v))

pub rely_refl : (T : Operations) (h : Heap) (A : FSet) → Rely T h A h A
rely_refl T h A = record {
  current_grows = le_refl _;
  flag_stays = λ e. e;
  done_stays = λ n e. e;
  claimed_stays = λ n e. e;
  op_stays = λ v m e. e;
  bottom_stays = λ e. (e, refl);
  nil_was_nil = λ v n a e. (e, λ d. d);
  resp_stays = λ m d e. e;
  set_stays = λ v a. refl;
  new_op_counted = λ v m a e. inl e;
}

module _ (T : Operations) (h : Heap) (A : FSet) (i : HeapInvariant T h A) where
  -- a version without operation is the bucket's
  pub nil_is_current : (v : ℕ) → v ≤ h.current → h.op_at v ≡ nil → v ≡ h.current
  nil_is_current v a e = go (ℕ_discrete v h.current)
    where
      go : Dec (v ≡ h.current) → v ≡ h.current
      go (yes q) = q
      go (no d) = let x = i.past_done v (omega arith) in absurd (nil_not_op e x.1)

  -- one with an operation is no later one
  pub not_ahead : (v m : ℕ) → h.op_at v ≡ op m → v ≤ h.current
  not_ahead v m e = go (dec_le v h.current)
    where
      go : Dec (v ≤ h.current) → v ≤ h.current
      go (yes q) = q
      go (no d) = absurd (nil_not_op (i.ahead_nil v (omega arith)) e)

  -- an operation that is not done stands in the bucket's version if anywhere
  pub not_done : (n : ℕ) → h.done n ≡ false → h.op_at h.current ≡ nil ⊎ h.op_at h.current ≡ bottom → A.done n ≡ false
  not_done n d e = go (bool? (A.done n))
    where
      no_op : (m : ℕ) → h.op_at h.current ≡ op m → ⊥
      no_op m f = elim e [ inl a ↦ nil_not_op a f | inr a ↦ bottom_not_op a f ]

      here : (v : ℕ) → h.op_at v ≡ op n → Dec (v ≡ h.current) → ⊥
      here v f (yes q) = no_op n (rw q at f)
      here v f (no ne) =
          let le = not_ahead v n f in
          let x = i.past_done v (omega arith) in
          tf (ap h.done (same_op_number f x.1) ∙ x.2) d

      go : (A.done n ≡ true) ⊎ (A.done n ≡ false) → A.done n ≡ false
      go (inr f) = f
      go (inl f) = let (v, g) = i.done_claimed n f in absurd (here v g (ℕ_discrete v h.current))
