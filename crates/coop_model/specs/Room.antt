-- No version needs a 65th tag: its operation and those of the versions before it are different numbers below 64. Assumes nothing.
use Rattle.std.specs.Prelude.{◌<◌, ◌≤◌, suc, ℕ, ◌≡◌, length}
use Rattle.std.proofs.Common.{◌∙◌, ap, sym, arith}
use Rattle.std.proofs.Math.Decide.{ℕ_discrete}
use Rattle.coop_spec.specs.Atomic.{FSet, Operations, change}
use Rattle.coop_laws.specs.Pigeonholes.{pigeonholes}
use Rattle.coop_model.specs.Heap.{Heap, OpField, bottom, nil, op}
use Rattle.coop_model.specs.HeapInvariant.{HeapInvariant}
use Rattle.coop_model.specs.Tags.{after_length}

abbrev number_of : OpField → ℕ
number_of nil = 0
number_of bottom = 0
number_of (op n) = n

module _ (T : Operations) (h : Heap) (A : FSet) (i : HeapInvariant T h A) (m : ℕ) (e : h.op_at h.current ≡ op m) where
  has_op : (v : ℕ) → v < suc h.current → h.op_at v ≡ op (number_of (h.op_at v))
  has_op v b = go (ℕ_discrete v h.current)
    where
      of : (x : OpField) (n : ℕ) → x ≡ op n → x ≡ op (number_of x)
      of x n q = q ∙ ap op (sym (ap number_of q))

      go : Dec (v ≡ h.current) → h.op_at v ≡ op (number_of (h.op_at v))
      go (yes q) = of (h.op_at v) m (ap h.op_at q ∙ e)
      go (no d) = let x = i.past_done v (omega arith) in of (h.op_at v) x.0 x.1

  pub versions_few : suc h.current ≤ 64
  versions_few =
      pigeonholes (λ v. number_of (h.op_at v)) (suc h.current) 64
      (λ v b. i.numbers_low v (number_of (h.op_at v)) (has_op v b))
      (λ v u b c q. i.one_version v u (number_of (h.op_at v)) (has_op v b) (has_op u c ∙ ap op (sym q)))

  -- the set that line 140 makes has at most 64 tags
  pub room : length (change T m (h.set h.current)) ≤ 64
  room =
      let a = versions_few in
      let b = i.few_tags h.current (omega arith) in
      let c = after_length (T.inserts m) (T.tag m) (h.set h.current) in
      omega arith
