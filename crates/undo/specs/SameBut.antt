-- Words that are as others but for a part of them: what one write leaves so, and that writing the part over gives the others again.
-- Assumes nothing.
use Rattle.std.specs.Prelude.{ℕ, ◌+◌, ◌-◌, ◌*◌, ◌/◌, ◌≤◌, ◌<◌, ◌≡◌, refl, ◌⊎◌, List, Bool, true, false, ltb, length, get_or, take, drop, set}
use Rattle.std.proofs.Common.{sym, ap, ◌∙◌, inl, inr, arith, ltb-true, ltb-false, length-set, length-drop, get_or-set_other, get_or-take, get_or-drop, ext_get_or, length-take-le}
use Rattle.std.proofs.Math.Decide.{dec_lt}
use Rattle.spec.specs.Words.{overwrite}
use Rattle.laws.specs.Overwrite.{over_length, over_in, over_out}
use Rattle.pool.specs.Pool.{bucket_at, store_bucket}
use Rattle.undo.specs.Undo.{node_words, store_words}

-- w is as long as v, and as v but for the n words from this one on
pub record SameBut (at n : ℕ) (v w : List ℕ) : Type 0 where
  pub long : length w ≡ length v
  pub same : (j : ℕ) → (j < at) ⊎ (at + n ≤ j) → get_or w j 0 ≡ get_or v j 0

pub same_all : (at n : ℕ) (w : List ℕ) → SameBut at n w w
same_all at n w = record { long = refl; same = λ j h. refl }

-- one word of the part is set
pub set_but : (at n i v : ℕ) (w : List ℕ) → at ≤ i → i < at + n → SameBut at n w (set w i v)
set_but at n i v w low high = record { long = length-set w i v; same = other }
  where
    other : (j : ℕ) → (j < at) ⊎ (at + n ≤ j) → get_or (set w i v) j 0 ≡ get_or w j 0
    other j (inl h) = get_or-set_other w i j v 0 (omega arith)
    other j (inr h) = get_or-set_other w i j v 0 (omega arith)

-- the part is written over
pub over_but : (at n : ℕ) (v w : List ℕ) → length v ≡ n → at + length v ≤ length w → SameBut at n w (overwrite w at v)
over_but at n v w e fits = record { long = over_length w at v fits; same = other }
  where
    other : (j : ℕ) → (j < at) ⊎ (at + n ≤ j) → get_or (overwrite w at v) j 0 ≡ get_or w j 0
    other j (inl h) = over_out w at v fits j (inl h)
    other j (inr h) = over_out w at v fits j (inr (omega arith))

-- ---- the part put back

module _ (at n : ℕ) (v w : List ℕ) (b : SameBut at n v w) where
  -- within the words
  pub part_back : at + n ≤ length v → overwrite w at (take n (drop at v)) ≡ v
  part_back h = ext_get_or 0 (overwrite w at p) v (over_length w at p fits ∙ b.long) (λ j k. go j (dec_lt j at) (dec_lt j (at + n)))
    where
      p : List ℕ
      p = take n (drop at v)

      pl : length p ≡ n
      pl = length-take-le n (drop at v) (rw (length-drop at v) (omega arith))

      fits : at + length p ≤ length w
      fits = let l = b.long in let q = pl in omega arith

      go : (j : ℕ) → Dec (j < at) → Dec (j < at + n) → get_or (overwrite w at p) j 0 ≡ get_or v j 0
      go j (yes q) r = over_out w at p fits j (inl q) ∙ b.same j (inl q)
      go j (no q) (yes r) =
          let e : j ≡ at + (j - at) = omega arith in
          let i : j - at < n = omega arith in
          ap (λ (k : ℕ). get_or (overwrite w at p) k 0) e
          ∙ over_in w at p fits (j - at) (let x = pl in omega arith)
          ∙ get_or-take n (drop at v) (j - at) 0 i ∙ get_or-drop at v (j - at) 0 ∙ ap (λ (k : ℕ). get_or v k 0) (sym e)
      go j (no q) (no r) = over_out w at p fits j (inr (let x = pl in omega arith)) ∙ b.same j (inr (omega arith))

  -- past their end
  pub none_back : length v ≤ at → w ≡ v
  none_back h = ext_get_or 0 w v b.long (λ j k. b.same j (inl (let l = b.long in omega arith)))

-- of a node, in a pool of whole nodes
pub node_back : (k h : ℕ) (v w : List ℕ) → length v ≡ 34 * h → SameBut (34 * k) 34 v w → store_words w k (node_words v k) ≡ v
unfolding store_words node_words
node_back k h v w whole b = go (ltb k (length v / 34)) refl
  where
    go : (a : Bool) → ltb k (length v / 34) ≡ a → store_words w k (node_words v k) ≡ v
    go true e =
        let i = ltb-true k (length v / 34) e in
        rw (b.long, e) (part_back (34 * k) 34 v w b (omega arith))
    go false e =
        let i = ltb-false k (length v / 34) e in
        rw (b.long, e) (none_back (34 * k) 34 v w b (omega arith))

-- and of a bucket
pub bucket_back : (k h : ℕ) (v w : List ℕ) → length v ≡ 66 * h → SameBut (66 * k) 66 v w → store_bucket w k (bucket_at v k) ≡ v
unfolding store_bucket bucket_at
bucket_back k h v w whole b = go (ltb k (length v / 66)) refl
  where
    go : (a : Bool) → ltb k (length v / 66) ≡ a → store_bucket w k (bucket_at v k) ≡ v
    go true e =
        let i = ltb-true k (length v / 66) e in
        rw (b.long, e) (part_back (66 * k) 66 v w b (omega arith))
    go false e =
        let i = ltb-false k (length v / 66) e in
        rw (b.long, e) (none_back (66 * k) 66 v w b (omega arith))
