-- The record that line 27 or 49 takes is one of its pool.
-- Assumes nothing.
use Rattle.std.specs.Prelude.{if◌then◌else◌}
use mathlib.Core.List.{List, [], ◌∷◌, map}
use mathlib.Core.Bool.{Bool, true, false}
use Prim.Native.Nat.{ℕ, ◌+◌, ◌%◌, ◌<◌, ◌≤◌}
use native.Mathlib.Nat.{mod-lt}
use native.Mathlib.Omega.{arith}
use Rattle.spec.specs.Lists.{member, range}
use Rattle.spec.specs.Machine.{Machine}
use Rattle.spec.specs.Words.{link}
use Rattle.spec.specs.Held.{held_nodes, held_buckets, first_free, cyclic_order, free_node, free_bucket}

free_in : (ls : List ℕ) (n last : ℕ) → 0 < n → (xs : List ℕ) → first_free ls (map (λ j. link ((last + j) % n)) xs) ≤ n
unfolding first_free
free_in ls n last z [] = omega arith
free_in ls n last z (x ∷ xs) = go (member (link ((last + x) % n)) ls) (free_in ls n last z xs)
  where
    go : (b : Bool) → first_free ls (map (λ j. link ((last + j) % n)) xs) ≤ n
        → (if b then first_free ls (map (λ j. link ((last + j) % n)) xs) else link ((last + x) % n)) ≤ n
    go true h = h
    go false h = let l : (last + x) % n < n = mod-lt (last + x) z in omega arith

pub free_node_in : (y : Machine) → 0 < y.state.nodes → free_node y ≤ y.state.nodes
unfolding free_node cyclic_order
free_node_in y z = free_in (held_nodes y) y.state.nodes y.state.last_node z (range 1 y.state.nodes)

pub free_bucket_in : (y : Machine) → 0 < y.state.buckets → free_bucket y ≤ y.state.buckets
unfolding free_bucket cyclic_order
free_bucket_in y z = free_in (held_buckets y) y.state.buckets y.state.last_bucket z (range 1 y.state.buckets)
