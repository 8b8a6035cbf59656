-- A chain of H predecessor links in a pool of H nodes is closed: what it names, its predecessor too. Each further link marks a node
-- that was not marked, and there are only H of them. Assumes nothing.
use Prim.Native.Nat.{ℕ, zero, suc, ◌-◌, ◌≤◌, ◌<◌}
use Rattle.std.specs.Prelude.{◌≡◌, refl, ◌⊎◌, Bool, false, ◌||◌, List, ◌∷◌, eqb, if◌then◌else◌}
use Rattle.std.proofs.Common.{sym, ap, le_refl, eqb-true, eq-eqb, ne_eqb}
use Rattle.std.proofs.Math.Logic.{inl, inr}
use Rattle.std.proofs.Math.Bool.{true}
use native.Mathlib.Omega.{arith}
use Rattle.std.proofs.Math.Decide.{ℕ_discrete}
use Rattle.spec.specs.Lists.{member}
use Rattle.spec.specs.Words.{link, number, pred}
use Rattle.spec.specs.Held.{chain}
use Rattle.laws.specs.Tests.{bool?, tf, or_e, or_l, or_r}
use Rattle.laws.specs.Lists.{member_cons, member_here, member_there}
use Rattle.laws.specs.Links.{true_filled}

-- ---- a chain of H links is closed: the nodes below n that are not marked are counted

free_below : (ℕ → Bool) → ℕ → ℕ
free_below M zero = 0
free_below M (suc n) = if M n then free_below M n else suc (free_below M n)

abbrev mark : (ℕ → Bool) → ℕ → ℕ → Bool
mark M m j = eqb j m || M j

abbrev none_marked : ℕ → Bool
none_marked j = false

free_step : (M : ℕ → Bool) (n : ℕ) (b : Bool) → M n ≡ b → free_below M (suc n) ≡ (if b then free_below M n else suc (free_below M n))
unfolding free_below
free_step M n b e = rw e

free_none : (n : ℕ) → free_below none_marked n ≡ n
unfolding free_below
free_none zero = refl
free_none (suc n) = ap suc (free_none n)

free_empty : (M : ℕ → Bool) (n k : ℕ) → free_below M n ≤ 0 → k < n → M k ≡ true
free_empty M zero k z h = absurd (omega arith)
free_empty M (suc n) k z h = go (M n) refl (ℕ_discrete k n) (free_empty M n k)
  where
    go : (b : Bool) → M n ≡ b → Dec (k ≡ n) → (free_below M n ≤ 0 → k < n → M k ≡ true) → M k ≡ true
    go true e (yes p) ih = rw p e
    go true e (no d) ih = ih (rw (free_step M n true e) at z) (omega arith)
    go false e d ih = let q : suc (free_below M n) ≤ 0 = rw (free_step M n false e) at z in absurd (omega arith)

free_mark_le : (M : ℕ → Bool) (m n : ℕ) → free_below (mark M m) n ≤ free_below M n
unfolding free_below
free_mark_le M m zero = omega arith
free_mark_le M m (suc n) = go (eqb n m) (M n) (free_mark_le M m n)
  where
    go : (a b : Bool) → free_below (mark M m) n ≤ free_below M n
        → (if (a || b) then free_below (mark M m) n else suc (free_below (mark M m) n)) ≤ (if b then free_below M n else suc (free_below M n))
    go true true ih = ih
    go true false ih = omega arith
    go false true ih = ih
    go false false ih = omega arith

free_mark : (M : ℕ → Bool) (m n : ℕ) → M m ≡ false → m < n → free_below (mark M m) n < free_below M n
free_mark M m zero e h = absurd (omega arith)
free_mark M m (suc n) e h = go (ℕ_discrete m n) (M n) refl (free_mark M m n e)
  where
    go : Dec (m ≡ n) → (b : Bool) → M n ≡ b → (m < n → free_below (mark M m) n < free_below M n) → free_below (mark M m) (suc n) < free_below M (suc n)
    go (yes p) b q ih =
        let le = free_mark_le M m n in
        let hit : mark M m n ≡ true = or_l (eqb n m) (M n) (eq-eqb n m (sym p)) in
        let out : M n ≡ false = rw p at e in
        rw (free_step (mark M m) n true hit, free_step M n false out) (omega arith)
    go (no d) true q ih =
        let lt = ih (omega arith) in
        rw (free_step (mark M m) n true (or_r (eqb n m) (M n) q), free_step M n true q) lt
    go (no d) false q ih =
        let lt = ih (omega arith) in
        let out : mark M m n ≡ false = rw (ne_eqb n m (λ r. d (sym r))) q in
        rw (free_step (mark M m) n false out, free_step M n false q) (omega arith)

pub data Link? (l : ℕ) : Type 0 where
  none : l ≡ 0 → Link? l
  some : (m : ℕ) → l ≡ link m → Link? l

pub link? : (l : ℕ) → Link? l
link? l = elim (ℕ_discrete l 0) [ yes p ↦ none p | no d ↦ some (l - 1) (omega arith) ]

pub chain_cons : (w : List ℕ) (n m : ℕ) → chain w (suc n) (link m) ≡ link m ∷ chain w n (pred w m)
unfolding chain
chain_cons w n m = let e : number (link m) ≡ m = omega arith in rw (true_filled (link m) (omega arith), e)

module _ (w : List ℕ) (H : ℕ) (links : (k : ℕ) → k < H → pred w k ≤ H) where
  chain_suc : (n m : ℕ) → chain w (suc n) (link m) ≡ link m ∷ chain w n (pred w m)
  chain_suc n m = chain_cons w n m

  -- a chain that starts in a closed set stays there
  inside : (M : ℕ → Bool) → ((x j : ℕ) → M x ≡ true → pred w x ≡ link j → M j ≡ true)
      → (n l : ℕ) → ((m : ℕ) → l ≡ link m → M m ≡ true) → (x : ℕ) → member (link x) (chain w n l) ≡ true → M x ≡ true
  unfolding chain member
  inside M cl zero l s x e = absurd (tf e refl)
  inside M cl (suc n) l s x e = go (link? l) (inside M cl n)
    where
      go : Link? l → ((l : ℕ) → ((m : ℕ) → l ≡ link m → M m ≡ true) → (x : ℕ) → member (link x) (chain w n l) ≡ true → M x ≡ true) → M x ≡ true
      go (none q) ih = let z : member (link x) (chain w (suc n) 0) ≡ true = rw q at e in absurd (tf z refl)
      go (some m q) ih =
          let z : member (link x) (chain w (suc n) (link m)) ≡ true = rw q at e in
          let c : member (link x) (link m ∷ chain w n (pred w m)) ≡ true = rw (chain_suc n m) at z in
          elim (member_cons (link x) (link m) (chain w n (pred w m)) c) [
            | inl r ↦ (let i : x ≡ m = omega arith in rw i (s m q))
            | inr r ↦ ih (pred w m) (λ k t. cl m k (s m q) t) x r
          ]

  module _ (n : ℕ) (M : ℕ → Bool) (l : ℕ) (front : (x j : ℕ) → M x ≡ true → pred w x ≡ link j → (M j ≡ true) ⊎ (l ≡ link j))
      (start : (m : ℕ) → l ≡ link m → M m ≡ true) where
    shut : (x j : ℕ) → M x ≡ true → pred w x ≡ link j → M j ≡ true
    shut x j e p = elim (front x j e p) [ inl q ↦ q | inr q ↦ start j q ]

    known : (x j : ℕ) → (M x || member (link x) (chain w n l)) ≡ true → pred w x ≡ link j → (M j || member (link j) (chain w n l)) ≡ true
    known x j e p = or_l _ _ (shut x j (elim (or_e (M x) (member (link x) (chain w n l)) e) [ inl q ↦ q | inr q ↦ inside M shut n l start x q ]) p)

  module _ (n : ℕ) (M : ℕ → Bool) (m : ℕ) where
    -- link m first, or m marked: the same
    to_marked : (x : ℕ) → (M x || member (link x) (chain w (suc n) (link m))) ≡ true → (mark M m x || member (link x) (chain w n (pred w m))) ≡ true
    to_marked x e = go (or_e (M x) _ (rw (chain_suc n m) at e))
      where
        go : (M x ≡ true) ⊎ (member (link x) (link m ∷ chain w n (pred w m)) ≡ true) → (mark M m x || member (link x) (chain w n (pred w m))) ≡ true
        go (inl q) = or_l (mark M m x) _ (or_r (eqb x m) (M x) q)
        go (inr q) = elim (member_cons (link x) (link m) (chain w n (pred w m)) q) [
          | inl r ↦ (let i : x ≡ m = omega arith in or_l (mark M m x) _ (or_l (eqb x m) (M x) (eq-eqb x m i)))
          | inr r ↦ or_r (mark M m x) _ r
        ]

    from_marked : (x : ℕ) → (mark M m x || member (link x) (chain w n (pred w m))) ≡ true → (M x || member (link x) (chain w (suc n) (link m))) ≡ true
    from_marked x e = rw (chain_suc n m) (go (or_e (mark M m x) _ e))
      where
        L : List ℕ
        L = chain w n (pred w m)

        go : (mark M m x ≡ true) ⊎ (member (link x) L ≡ true) → (M x || member (link x) (link m ∷ L)) ≡ true
        go (inl q) = elim (or_e (eqb x m) (M x) q) [
          | inl r ↦ or_r (M x) _ (member_here (link x) (link m) L (ap link (eqb-true x m r)))
          | inr r ↦ or_l (M x) _ r
        ]
        go (inr q) = or_r (M x) _ (member_there (link x) (link m) L q)

    front_marked : (l : ℕ) → l ≡ link m → ((x j : ℕ) → M x ≡ true → pred w x ≡ link j → (M j ≡ true) ⊎ (l ≡ link j))
        → (x j : ℕ) → mark M m x ≡ true → pred w x ≡ link j → (mark M m j ≡ true) ⊎ (pred w m ≡ link j)
    front_marked l q front x j e p = go (or_e (eqb x m) (M x) e)
      where
        go : (eqb x m ≡ true) ⊎ (M x ≡ true) → (mark M m j ≡ true) ⊎ (pred w m ≡ link j)
        go (inl r) = inr (rw (eqb-true x m r) at p)
        go (inr r) = elim (front x j r p) [
          | inl t ↦ inl (or_r (eqb j m) (M j) t)
          | inr t ↦ (let i : j ≡ m = omega arith in inl (or_l (eqb j m) (M j) (eq-eqb j m i)))
        ]

  closed : (n : ℕ) (M : ℕ → Bool) (l : ℕ) → l ≤ H → free_below M H ≤ n
      → ((x j : ℕ) → M x ≡ true → pred w x ≡ link j → (M j ≡ true) ⊎ (l ≡ link j))
      → (x j : ℕ) → (M x || member (link x) (chain w n l)) ≡ true → pred w x ≡ link j → (M j || member (link j) (chain w n l)) ≡ true
  closed zero M l low few front x j e p = known zero M l front (λ m q. free_empty M H m few (omega arith)) x j e p
  closed (suc n) M l low few front x j e p = elim (link? l) [
    | none q ↦ known (suc n) M l front (λ m r. absurd (omega arith)) x j e p
    | some m q ↦ (elim (bool? (M m)) [
      | inl t ↦ known (suc n) M l front (λ k r. let i : k ≡ m = omega arith in rw i t) x j e p
      | inr t ↦
          (let below : m < H = omega arith in
          let less = free_mark M m H t below in
          let e' : (M x || member (link x) (chain w (suc n) (link m))) ≡ true = rw q at e in
          rw q (from_marked n M m j (closed n (mark M m) (pred w m) (links m below) (omega arith) (front_marked n M m l q front) x j (to_marked n M m x e') p)))
    ])
  ]

  -- what a chain of H links names, its predecessor too
  pub chain_closed : (l : ℕ) → l ≤ H → (x j : ℕ) → member (link x) (chain w H l) ≡ true → pred w x ≡ link j → member (link j) (chain w H l) ≡ true
  chain_closed l low x j e p = closed H none_marked l low (rw (free_none H) (le_refl H)) (λ x j q. absurd (tf q refl)) x j e p

  pub chain_first : (l : ℕ) → 1 ≤ H → ¬ (l ≡ 0) → member l (chain w H l) ≡ true
  chain_first l h d = go H h
    where
      go : (n : ℕ) → 1 ≤ n → member l (chain w n l) ≡ true
      go zero h = absurd (omega arith)
      go (suc n) h = elim (link? l) [ none q ↦ absurd (d q) | some m q ↦ rw (q, chain_suc n m) (member_here (link m) (link m) _ refl) ]

-- a chain names no empty link
pub chain_filled : (w : List ℕ) (n l x : ℕ) → member x (chain w n l) ≡ true → ¬ (x ≡ 0)
unfolding chain member
chain_filled w zero l x e = absurd (tf e refl)
chain_filled w (suc n) l x e = go (link? l) (chain_filled w n)
  where
    go : Link? l → ((l x : ℕ) → member x (chain w n l) ≡ true → ¬ (x ≡ 0)) → ¬ (x ≡ 0)
    go (none q) ih = let z : member x (chain w (suc n) 0) ≡ true = rw q at e in absurd (tf z refl)
    go (some m q) ih =
        let z : member x (chain w (suc n) (link m)) ≡ true = rw q at e in
        let c : member x (link m ∷ chain w n (pred w m)) ≡ true = rw (chain_cons w n m) at z in
        elim (member_cons x (link m) (chain w n (pred w m)) c) [ inl r ↦ omega arith | inr r ↦ ih (pred w m) x r ]
