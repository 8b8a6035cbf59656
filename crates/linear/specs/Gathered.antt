-- The tags that line 49 gathers are those that the place is to have, and at most 64: on a grow those of one frozen bucket that go to
-- this place, on a shrink those of two. Assumes nothing.
use Rattle.std.specs.Prelude.{◌≡◌, ◌⊎◌, Bool, ◌||◌, ℕ, suc, ◌+◌, ◌%◌, ◌≤◌, ◌<◌, length}
use Rattle.std.proofs.Math.Path.{refl, sym, ap}
use Rattle.std.proofs.Common.{◌∙◌, inl, inr, arith}
use Rattle.std.proofs.Math.Bool.{true, false}
use Rattle.std.proofs.Math.Decide.{ℕ_discrete}
use borrow.Author.Tests.{eq-eqb, ne_eqb}
use Rattle.spec.specs.declared.Task.{Task}
use Rattle.spec.specs.Lists.{member}
use Rattle.spec.specs.Machine.{Machine}
use Rattle.spec.specs.Words.{link}
use Rattle.spec.specs.Listed.{tags_of}
use Rattle.spec.specs.Lines.{gathered}
use Rattle.laws.specs.SoundFacts.{SoundFacts}
use Rattle.laws.specs.Ascending.{Rising, ascending_rising, member_filter, member_union, rising_filter, rising_union}
use Rattle.laws.specs.Tests.{tf}
use Rattle.model.specs.Heap.{Heap, slot_in}
use Rattle.model.specs.HeapInvariant.{HeapInvariant, place<}
use Rattle.model.specs.Filling.{InNode, SourceFew}
use Rattle.model.specs.Slots.{mod_grown, mod_shrunk}
use Rattle.linear.specs.Represents.{Represents, bucket_in_pool, Records}
use Rattle.linear.specs.ReadLinks.{size_at, tags_at}
use Rattle.linear.specs.LookupLines.{filled_is}
use Rattle.linear.specs.Matches.{FromOne, FromTwo}

-- what line 49 gathers
module _ {y : Machine} {h : Heap} {K : ℕ → Type 0} {R : Records}
    (f : SoundFacts y) (inv : HeapInvariant h) (rep : Represents y h K R) (s t i : ℕ) (kt : K t) (ks : K s) (w : InNode h t i) (q : t ≡ suc s) (c : Task)
    (t≡ : c.t ≡ link
    (R.node t)) (i≡ : c.i ≡ i) where
  s< : s < h.head
  s< = let a = w.0 in omega arith

  -- the bucket at a place of s
  tells : (j : ℕ) {l : ℕ} → j < h.size s → l ≡ link (R.bucket s j) → (k : ℕ) → slot_in h s k ≡ j → member k (tags_of y l) ≡ h.has s k
  tells j b e k p = ap (member k) (tags_at inv rep (R.bucket s j) e) ∙ (rep.tags s j ks b (inv.past_filled s j s< b)).inside k p

  lacks : (j : ℕ) {l : ℕ} → j < h.size s → l ≡ link (R.bucket s j) → (k : ℕ) → ¬ (slot_in h s k ≡ j) → member k (tags_of y l) ≡ false
  lacks j b e k p = ap (member k) (tags_at inv rep (R.bucket s j) e) ∙ (rep.tags s j ks b (inv.past_filled s j s< b)).outside k p

  rises : (j : ℕ) {l : ℕ} → j < h.size s → l ≡ link (R.bucket s j) → Rising (tags_of y l)
  rises j b e = rw (tags_at inv rep (R.bucket s j) e)
      (ascending_rising _ (f.bucket (R.bucket s j) (bucket_in_pool f rep s j ks b (inv.past_filled s j s< b))).rising)

  pub gather_own : FromOne h R s t i c ⊎ FromTwo h R s t i c → (k : ℕ) → slot_in h t k ≡ i → member k (gathered y c) ≡ h.has s k
  unfolding gathered
  gather_own (inl m) k p =
      let b = place< h inv s i (let a = s< in omega arith) in
      let e : slot_in h s k ≡ i % h.size s = sym (mod_grown (h.key k) (h.size t) (h.size s) m.0) ∙ ap (λ (n : ℕ). n % h.size s) p in
      rw m.2 (member_filter k _ (tags_of y c.m) ∙ rw (size_at inv rep t kt t≡, i≡, rep.slot≡ k (h.size t), eq-eqb (slot_in h t k) i p)
      (tells (i % h.size s) b m.1 k e))
  gather_own (inr m) k p =
      let a = inv.sizes_positive t w.0 in
      let b = w.1 in
      let d = m.0 in
      rw (filled_is _ m.2) (member_union k (tags_of y c.m) (tags_of y c.n) ∙ go (mod_shrunk (h.key k) (h.size t) (h.size s) a d))
    where
      go : (slot_in h s k ≡ slot_in h t k) ⊎ (slot_in h s k ≡ slot_in h t k + h.size t)
          → (member k (tags_of y c.m) || member k (tags_of y c.n)) ≡ h.has s k
      go (inl e) =
          let a = inv.sizes_positive t w.0 in
          let b = w.1 in
          let d = m.0 in
          rw (lacks (i + h.size t) (omega arith) m.2 k (λ u. omega arith)) (rw (tells i (omega arith) m.1 k (e ∙ p)) (or_right (h.has s k)))
        where
          or_right : (v : Bool) → (v || false) ≡ v
          or_right true = refl
          or_right false = refl
      go (inr e) =
          let a = inv.sizes_positive t w.0 in
          let b = w.1 in
          let d = m.0 in
          rw (lacks i (omega arith) m.1 k (λ u. omega arith)) (tells (i + h.size t) (omega arith) m.2 k (omega arith))

  pub gather_foreign : FromOne h R s t i c ⊎ FromTwo h R s t i c → (k : ℕ) → ¬ (slot_in h t k ≡ i) → member k (gathered y c) ≡ false
  unfolding gathered
  gather_foreign (inl m) k p =
      rw m.2 (member_filter k _ (tags_of y c.m) ∙ rw (size_at inv rep t kt t≡, i≡, rep.slot≡ k (h.size t), ne_eqb (slot_in h t k) i p))
  gather_foreign (inr m) k p =
      let a = inv.sizes_positive t w.0 in
      let b = w.1 in
      let d = m.0 in
      rw (filled_is _ m.2) (member_union k (tags_of y c.m) (tags_of y c.n) ∙ go (mod_shrunk (h.key k) (h.size t) (h.size s) a d))
    where
      go : (slot_in h s k ≡ slot_in h t k) ⊎ (slot_in h s k ≡ slot_in h t k + h.size t) → (member k (tags_of y c.m) || member k (tags_of y c.n)) ≡ false
      go e =
          let a = inv.sizes_positive t w.0 in
          let b = w.1 in
          let d = m.0 in
          rw (lacks i (omega arith) m.1 k (away₁ e)) (lacks (i + h.size t) (omega arith) m.2 k (away₂ e))
        where
          size_bound : slot_in h t k < h.size t
          size_bound = place< h inv t (h.key k) w.0

          away₁ : (slot_in h s k ≡ slot_in h t k) ⊎ (slot_in h s k ≡ slot_in h t k + h.size t) → ¬ (slot_in h s k ≡ i)
          away₁ (inl e) u = p (sym e ∙ u)
          away₁ (inr e) u = let b = w.1 in let s = size_bound in omega arith

          away₂ : (slot_in h s k ≡ slot_in h t k) ⊎ (slot_in h s k ≡ slot_in h t k + h.size t) → ¬ (slot_in h s k ≡ i + h.size t)
          away₂ (inl e) u = let b = w.1 in let s = size_bound in omega arith
          away₂ (inr e) u = p (omega arith)

  gather_rising : FromOne h R s t i c ⊎ FromTwo h R s t i c → Rising (gathered y c)
  unfolding gathered
  gather_rising (inl m) = rw m.2 (rising_filter _ (tags_of y c.m) (rises (i % h.size s) (place< h inv s i (let a = s< in omega arith)) m.1))
  gather_rising (inr m) =
      let b = w.1 in let d = m.0 in rw (filled_is _ m.2) (rising_union (tags_of y c.m) (tags_of y c.n) (rises (i + h.size t) (omega arith) m.2))

  pub gather_few : SourceFew h t i s → FromOne h R s t i c ⊎ FromTwo h R s t i c → length (gathered y c) ≤ 64
  gather_few fits m = fits (gathered y c) (gather_rising m) (λ k e. go k e (ℕ_discrete (slot_in h t k) i))
    where
      go : (k : ℕ) → member k (gathered y c) ≡ true → Dec (slot_in h t k ≡ i) → (slot_in h t k ≡ i) × (h.has s k ≡ true)
      go k e (yes p) = (p, sym (gather_own m k p) ∙ e)
      go k e (no n) = absurd (tf e (gather_foreign m k n))
