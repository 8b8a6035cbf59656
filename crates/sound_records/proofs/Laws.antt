-- Laws of the loops over a list and over the records of a pool, a turn of a loop each.
-- Assumes nothing.
use Rattle.std.specs.List.{list_any}
use mathlib.Core.Path.{◌≡◌, refl}
use mathlib.Core.List.{List, [], ◌∷◌}
use mathlib.Core.Bool.{true, false}
use Prim.Native.Nat.{ℕ, suc, ◌+◌, ◌-◌, ◌*◌, ◌<◌, ◌≤◌}
use native.Mathlib.Omega.{arith}
use lib.Dec.{eqb}
use lib.ListN.{drop}
use lib.Seq.{drop-drop}
use Rattle.spec.specs.Lists.{member}
use Rattle.spec.specs.Machine.{Machine}
use Rattle.spec.specs.Sound.{sound_node, sound_nodes, sound_bucket, sound_buckets}

eqb_swaps : (a b : ℕ) → eqb a b ≡ eqb b a
eqb_swaps a b = grind arith

-- the library's test whether an element equals x
pub any_member : (x : ℕ) (s : List ℕ) → list_any (λ y. eqb y x) s ≡ member x s
unfolding member
any_member x [] = refl
any_member x (y ∷ s) = rw (eqb_swaps y x, any_member x s)

-- ---- the pools, record by record

module _ (w : List ℕ) (n k : ℕ) (h : k < n) where
  less : n - k ≡ suc (n - (k + 1))
  less = omega arith

  pub buckets_on : sound_bucket (drop (66 * k) w) ≡ true → sound_buckets (n - k) (drop (66 * k) w) ≡ sound_buckets (n - (k + 1)) (drop (66 * (k + 1)) w)
  unfolding sound_buckets
  buckets_on e =
      let q : 66 * k + 66 ≡ 66 * (k + 1) = omega arith in
      rw (less, e, drop-drop 66 (66 * k) w, q)

  pub buckets_no : sound_bucket (drop (66 * k) w) ≡ false → sound_buckets (n - k) (drop (66 * k) w) ≡ false
  unfolding sound_buckets
  buckets_no e = rw (less, e)

  module _ (y : Machine) where
    pub nodes_on : sound_node y (drop (34 * k) w) ≡ true → sound_nodes y (n - k) (drop (34 * k) w) ≡ sound_nodes y (n - (k + 1)) (drop (34 * (k + 1)) w)
    unfolding sound_nodes
    nodes_on e =
        let q : 34 * k + 34 ≡ 34 * (k + 1) = omega arith in
        rw (less, e, drop-drop 34 (34 * k) w, q)

    pub nodes_no : sound_node y (drop (34 * k) w) ≡ false → sound_nodes y (n - k) (drop (34 * k) w) ≡ false
    unfolding sound_nodes
    nodes_no e = rw (less, e)

module _ (w : List ℕ) (n k : ℕ) (h : n ≤ k) where
  done : n - k ≡ 0
  done = omega arith

  pub buckets_end : sound_buckets (n - k) w ≡ true
  unfolding sound_buckets
  buckets_end = rw done

  pub nodes_end : (y : Machine) → sound_nodes y (n - k) w ≡ true
  unfolding sound_nodes
  nodes_end y = rw done
