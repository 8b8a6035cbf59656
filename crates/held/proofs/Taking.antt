-- Taking: what is taken in a sound machine. Assumes nothing.
use Rattle.std.specs.Prelude.{if◌then◌else◌, Option, Some, None, unwrap_or}
use mathlib.Core.Path.{◌≡◌, refl, sym, ap, ◌∙◌}
use mathlib.Core.List.{List, [], ◌∷◌, ◌++◌}
use mathlib.Core.Bool.{Bool, true, false, ◌||◌, ◌&&◌}
use Prim.Native.Nat.{ℕ, ◌-◌, ◌<◌, ◌≤◌}
use native.Mathlib.Omega.{arith}
use borrow.Author.Tests.{lt-ltb, le-ltb, le-leb, lt-leb, leb-true}
use lib.Dec.{ltb, leb}
use lib.ListN.{length, get_or}
use Rattle.laws.specs.Tests.{same_test, and2, and_i}
use Rattle.laws.specs.Lists.{member_append, member_here, member_there, range_low, range_has}
use Rattle.laws.specs.Ascending.{member_filter}
use Rattle.laws.specs.Soundness.{sound_facts}
use Rattle.laws.specs.Links.{filled_link}
use Rattle.laws.specs.JoinedLists.{join_from, from_join}
use Rattle.laws.specs.Held.{held_filled, held_node_below}
use Rattle.laws.proofs.Held.{member_held}
use Rattle.spec.specs.Lists.{member, filter, range, concat_map}
use Rattle.spec.specs.Machine.{Machine}
use Rattle.spec.specs.Words.{number, link, places}
use Rattle.spec.specs.Sound.{node_count, bucket_count, sound}
use Rattle.spec.specs.Held.{task_buckets, held_nodes, held_buckets, first_free, cyclic_order, free_node, free_bucket}
use Rattle.held_marks.specs.Marks.{Exactly, link_of}
use Rattle.held.specs.Held.{marked_numbers, placed_low, node_to_take, bucket_to_take}

-- ---- numbers and links

-- the same members
pub exactly_alike : {m : List Bool} (xs ys : List ℕ) → ((k : ℕ) → member k xs ≡ member k ys) → Exactly m xs → Exactly m ys
exactly_alike xs ys e a = record { each = λ k z h. a.each k z h ∙ e k }

pub append_alike : (xs ys zs : List ℕ) → ((k : ℕ) → member k xs ≡ member k ys) → (k : ℕ) → member k (xs ++ zs) ≡ member k (ys ++ zs)
append_alike xs ys zs e k = member_append k xs zs ∙ ap (λ (b : Bool). b || member k zs) (e k) ∙ sym (member_append k ys zs)

-- the places of the marked nodes are those of the held nodes of numbers below 64
module _ (y : Machine) (nodes : List Bool) (n : length nodes ≡ 64) (x : Exactly nodes (held_nodes y)) where
  abbrev is_marked : ℕ → Bool
  is_marked i = get_or nodes i false

  abbrev low : ℕ → Bool
  low l = leb l 64

  abbrev of_link : ℕ → List ℕ
  of_link l = places y.nodes (number l)

  forward : (k : ℕ) → member k (concat_map (places y.nodes) (marked_numbers nodes)) ≡ true → member k (placed_low y) ≡ true
  unfolding marked_numbers placed_low
  forward k h =
      let p = join_from (places y.nodes) k (filter is_marked (range 0 64)) h in
      let i = p.0 in
      let q = and2 (is_marked i) (member i (range 0 64)) (sym (member_filter i is_marked (range 0 64)) ∙ p.1) in
      let r = range_low i 0 64 q.1 in
      let e : link i - 1 ≡ i = omega arith in
      let m : member (link i) (held_nodes y) ≡ true = sym (x.each (link i) (omega arith) (omega arith)) ∙ ap (λ (j : ℕ). get_or nodes j false) e ∙ q.0 in
      let g : member (link i) (filter low (held_nodes y)) ≡ true =
      member_filter (link i) low (held_nodes y) ∙ and_i (low (link i)) (member (link i) (held_nodes y)) (le-leb (link i) 64 (omega arith)) m in
      from_join of_link k (link i) (filter low (held_nodes y)) g (rw e p.2)

  backward : (k : ℕ) → member k (placed_low y) ≡ true → member k (concat_map (places y.nodes) (marked_numbers nodes)) ≡ true
  unfolding marked_numbers placed_low
  backward k h =
      let p = join_from of_link k (filter low (held_nodes y)) h in
      let l = p.0 in
      let q = and2 (low l) (member l (held_nodes y)) (sym (member_filter l low (held_nodes y)) ∙ p.1) in
      let z = held_filled y l q.1 in
      let b = leb-true l 64 q.0 in
      let i : 0 < l = omega (arith, z) in
      let m : is_marked (number l) ≡ true = x.each l i (omega arith) ∙ q.1 in
      let g : member (number l) (filter is_marked (range 0 64)) ≡ true = member_filter (number l) is_marked (range 0 64)
      ∙ and_i (is_marked (number l)) (member (number l) (range 0 64)) m (range_has (number l) 0 64 (omega arith) (omega arith)) in
      from_join (places y.nodes) k (number l) (filter is_marked (range 0 64)) g p.2

  pub same_places : (k : ℕ) → member k (concat_map (places y.nodes) (marked_numbers nodes)) ≡ member k (placed_low y)
  same_places k = same_test _ _ (forward k) (backward k)

-- ---- within the bounds, and out of them

module _ (y : Machine) where
  abbrev NodeBounds : Type 0
  NodeBounds = (y.state.head < 64) × (node_count y ≤ 64) × (y.state.last_node < node_count y)

  pub node_in : NodeBounds → node_to_take y ≡ free_node y
  unfolding node_to_take
  node_in h = rw (lt-ltb _ _ h.0, le-leb _ _ h.1, lt-ltb _ _ h.2)

  pub node_head_past : 64 ≤ y.state.head → node_to_take y ≡ 0
  unfolding node_to_take
  node_head_past h = rw (le-ltb _ _ h)

  pub nodes_past : 64 < node_count y → node_to_take y ≡ 0
  unfolding node_to_take
  nodes_past h = none (ltb y.state.head 64) (ltb y.state.last_node (node_count y)) (lt-leb _ _ h)
    where
      none : (a c : Bool) {b : Bool} → b ≡ false → (if a && b && c then free_node y else 0) ≡ 0
      none true c e = rw e
      none false c e = refl

  pub node_last_past : node_count y ≤ y.state.last_node → node_to_take y ≡ 0
  unfolding node_to_take
  node_last_past h = none (ltb y.state.head 64) (leb (node_count y) 64) (le-ltb _ _ h)
    where
      none : (a b : Bool) {c : Bool} → c ≡ false → (if a && b && c then free_node y else 0) ≡ 0
      none true true e = rw e
      none true false e = refl
      none false b e = refl

  abbrev BucketBounds : Type 0
  BucketBounds = (y.state.head < 64) × (bucket_count y ≤ 1024) × (y.state.last_bucket < bucket_count y)

  abbrev low_free : ℕ
  low_free = first_free (placed_low y ++ concat_map task_buckets y.state.task) (cyclic_order (bucket_count y) y.state.last_bucket)

  pub bucket_in : BucketBounds → bucket_to_take y ≡ low_free
  unfolding bucket_to_take
  bucket_in h = rw (lt-ltb _ _ h.0, le-leb _ _ h.1, lt-ltb _ _ h.2)

  pub bucket_head_past : 64 ≤ y.state.head → bucket_to_take y ≡ 0
  unfolding bucket_to_take
  bucket_head_past h = rw (le-ltb _ _ h)

  pub buckets_past : 1024 < bucket_count y → bucket_to_take y ≡ 0
  unfolding bucket_to_take
  buckets_past h = none (ltb y.state.head 64) (ltb y.state.last_bucket (bucket_count y)) (lt-leb _ _ h)
    where
      none : (a c : Bool) {b : Bool} → b ≡ false → (if a && b && c then low_free else 0) ≡ 0
      none true c e = rw e
      none false c e = refl

  pub bucket_last_past : bucket_count y ≤ y.state.last_bucket → bucket_to_take y ≡ 0
  unfolding bucket_to_take
  bucket_last_past h = none (ltb y.state.head 64) (leb (bucket_count y) 1024) (le-ltb _ _ h)
    where
      none : (a b : Bool) {c : Bool} → c ≡ false → (if a && b && c then low_free else 0) ≡ 0
      none true true e = rw e
      none true false e = refl
      none false b e = refl

-- ---- by its number

pub number_or_0 : (r : Option ℕ) → unwrap_or r 0 ≡ number (link_of r)
number_or_0 None = refl
number_or_0 (Some k) = omega arith

-- ---- in a sound machine

filter_whole : (f : ℕ → Bool) (xs : List ℕ) → ((x : ℕ) → member x xs ≡ true → f x ≡ true) → filter f xs ≡ xs
unfolding filter
filter_whole f [] h = refl
filter_whole f (x ∷ xs) h = rw (h x (member_here x x xs refl)) (ap (λ (l : List ℕ). x ∷ l) (filter_whole f xs (λ z e. h z (member_there z x xs e))))

pub bucket_sound : (y : Machine) → sound y ≡ true → bucket_to_take y ≡ free_bucket y
unfolding placed_low free_bucket held_buckets
bucket_sound y s =
    let f = sound_facts y s in
    let H = f.H_high in
    let b : BucketBounds y = (let h = f.head in omega arith, f.B_high, f.last_bucket) in
    let low : (l : ℕ) → member l (held_nodes y) ≡ true → leb l 64 ≡ true =
    λ l e. (let p = filled_link l (held_filled y l e) in let k = p.0 in let q = p.1 in let h = held_node_below y f k
    (member_held y k (rw q at e)) in le-leb l 64 (omega arith)) in
    bucket_in y b ∙ rw (filter_whole (λ l. leb l 64) (held_nodes y) low)
