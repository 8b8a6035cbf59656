-- What a node's size, predecessor and places read after a write to the node pool. Assumes nothing.
use Prim.Native.Nat.{ℕ, suc, ◌+◌, ◌*◌, ◌≤◌, ◌<◌}
use Rattle.std.specs.Prelude.{◌≡◌, List, length, set}
use Rattle.std.proofs.Math.Path.{refl}
use Rattle.std.proofs.Common.{ap, ◌∙◌}
use native.Mathlib.Omega.{arith}
use Rattle.std.proofs.Math.Decide.{ℕ_discrete}
use Rattle.std.proofs.Math.ListN.{get_or}
use Rattle.std.proofs.lemmas.List.{get_or-replicate}
use Rattle.std.proofs.Math.Seq.{get_or-set_same, get_or-set_other}
use Rattle.spec.specs.Words.{size, pred, place, overwrite, node_of}
use Rattle.laws.specs.Tests.{At, hit, miss}
use Rattle.laws.specs.Overwrite.{over_length, over_in, over_out, apart_34}

-- ---- on the words

module _ (w : List ℕ) (H : ℕ) (fits : length w ≡ 34 * H) (k : ℕ) (below : k < H) where
  module _ (i l : ℕ) (small : i < 32) where
    pub sp_size : (j : ℕ) → size (set w (34 * k + 2 + i) l) j ≡ size w j
    unfolding size
    sp_size j = get_or-set_other w (34 * k + 2 + i) (34 * j) l 0 (omega arith)

    pub sp_pred : (j : ℕ) → pred (set w (34 * k + 2 + i) l) j ≡ pred w j
    unfolding pred
    sp_pred j = get_or-set_other w (34 * k + 2 + i) (34 * j + 1) l 0 (omega arith)

    pub sp_place : (j a : ℕ) → a < 32 → At ((j ≡ k) × (a ≡ i)) l (place w j a) (place (set w (34 * k + 2 + i) l) j a)
    unfolding place
    sp_place j a h = go (ℕ_discrete (34 * j + 2 + a) (34 * k + 2 + i))
      where
        go : Dec (34 * j + 2 + a ≡ 34 * k + 2 + i) → At ((j ≡ k) × (a ≡ i)) l (get_or w (34 * j + 2 + a) 0) (get_or (set w (34 * k + 2 + i) l) (34 * j + 2 + a) 0)
        go (yes p) = hit (omega arith, omega arith) (ap (λ (n : ℕ). get_or (set w (34 * k + 2 + i) l) n 0) p ∙ get_or-set_same w (34 * k + 2 + i) l 0 (omega arith))
        go (no n) = miss (λ q. n (omega arith)) (get_or-set_other w (34 * k + 2 + i) (34 * j + 2 + a) l 0 n)

  pub cp_size : (j : ℕ) → size (set w (34 * k + 1) 0) j ≡ size w j
  unfolding size
  cp_size j = get_or-set_other w (34 * k + 1) (34 * j) 0 0 (omega arith)

  pub cp_place : (j a : ℕ) → a < 32 → place (set w (34 * k + 1) 0) j a ≡ place w j a
  unfolding place
  cp_place j a h = get_or-set_other w (34 * k + 1) (34 * j + 2 + a) 0 0 (omega arith)

  pub cp_pred : (j : ℕ) → At (j ≡ k) 0 (pred w j) (pred (set w (34 * k + 1) 0) j)
  unfolding pred
  cp_pred j = go (ℕ_discrete j k)
    where
      go : Dec (j ≡ k) → At (j ≡ k) 0 (get_or w (34 * j + 1) 0) (get_or (set w (34 * k + 1) 0) (34 * j + 1) 0)
      go (yes p) = hit p (ap (λ (n : ℕ). get_or (set w (34 * k + 1) 0) (34 * n + 1) 0) p ∙ get_or-set_same w (34 * k + 1) 0 0 (omega arith))
      go (no n) = miss n (get_or-set_other w (34 * k + 1) (34 * j + 1) 0 0 (omega arith))

  module _ (sz p : ℕ) where
    pub nn_long : length (node_of sz p) ≡ 34
    unfolding node_of
    nn_long = refl

    pub nn_fits : 34 * k + length (node_of sz p) ≤ length w
    nn_fits = rw nn_long (omega arith)

    pub nn_length : length (overwrite w (34 * k) (node_of sz p)) ≡ length w
    nn_length = over_length w (34 * k) (node_of sz p) nn_fits

    -- word b of node j
    pub nn_word : (j b : ℕ) → b < 34 → At (j ≡ k) (get_or (node_of sz p) b 0) (get_or w (34 * j + b) 0) (get_or (overwrite w (34 * k) (node_of sz p)) (34 * j + b) 0)
    nn_word j b h = go (ℕ_discrete j k)
      where
        go : Dec (j ≡ k) → At (j ≡ k) (get_or (node_of sz p) b 0) (get_or w (34 * j + b) 0) (get_or (overwrite w (34 * k) (node_of sz p)) (34 * j + b) 0)
        go (yes q) =
            hit q (ap (λ (n : ℕ). get_or (overwrite w (34 * k) (node_of sz p)) (34 * n + b) 0) q ∙ over_in w (34 * k) (node_of sz p) nn_fits b (rw nn_long h))
        go (no n) = miss n (over_out w (34 * k) (node_of sz p) nn_fits (34 * j + b) (rw nn_long (apart_34 j k b n h)))

    pub nn_size : (j : ℕ) → At (j ≡ k) sz (size w j) (size (overwrite w (34 * k) (node_of sz p)) j)
    unfolding size node_of
    nn_size j = let e : 34 * j + 0 ≡ 34 * j = omega arith in rw e at (nn_word j 0 (omega arith))

    pub nn_pred : (j : ℕ) → At (j ≡ k) p (pred w j) (pred (overwrite w (34 * k) (node_of sz p)) j)
    unfolding pred node_of
    nn_pred j = nn_word j 1 (omega arith)

    pub nn_zero : (a : ℕ) → a < 32 → get_or (node_of sz p) (2 + a) 0 ≡ 0
    unfolding node_of
    nn_zero a h =
        let e : 2 + a ≡ suc (suc a) = omega arith in
        rw e (get_or-replicate 32 a 0 0 h)

    pub nn_place : (j a : ℕ) → a < 32 → At (j ≡ k) 0 (place w j a) (place (overwrite w (34 * k) (node_of sz p)) j a)
    unfolding place
    nn_place j a h =
        let e : 34 * j + (2 + a) ≡ 34 * j + 2 + a = omega arith in
        rw (nn_zero a h) at (rw e at (nn_word j (2 + a) (omega arith)))
