-- The listed tags ascend, and a tag is among them exactly if it is in the set. Assumes nothing.
use Prim.Native.Nat.{ℕ, ◌+◌, ◌*◌, ◌≤◌, ◌<◌}
use Rattle.std.specs.Prelude.{◌≡◌, ◌⊎◌, true, false, ◌&&◌, drop, if◌then◌else◌}
use Rattle.std.proofs.Math.Path.{refl}
use Rattle.std.proofs.Common.{ap, ◌∙◌, inl, inr, get_or-drop}
use mathlib.Core.List.{List, []}
use Rattle.std.proofs.Math.Bool.{Bool}
use Rattle.std.proofs.Math.Nat.{mod-lt}
use native.Mathlib.Omega.{arith}
use Rattle.spec.specs.Lists.{member, union, concat_map, ascending}
use Rattle.spec.specs.Machine.{Machine}
use Rattle.spec.specs.Words.{link, number, filled, place, places}
use Rattle.spec.specs.Listed.{size_of, pred_of, place_of, slot, place_for, tags_of, head_of, in_bucket, in_set, placed_tags, node_tags, listed}
use Rattle.laws.specs.Tests.{bool?, and2, or_l, or_r, if_true, and_i}
use Rattle.laws.specs.SoundFacts.{NodeLink, SoundFacts}
use Rattle.laws.specs.Soundness.{named}
use Rattle.laws.specs.Sizes.{listed_low, listed_high}
use Rattle.laws.specs.Links.{filled_true, filled_false, true_filled}
use Rattle.laws.specs.JoinedLists.{from_join, has_take}
use Rattle.laws.specs.Ascending.{Rising, member_filter, member_union, rising_filter, rising_union, rising_ascending}

pub listed_rising : (y : Machine) → Rising (listed y)
unfolding listed
listed_rising y = rising_filter (in_set y) _ (rising_union (node_tags y (head_of y)) _ (rising_union (node_tags y (pred_of y (head_of y))) [] tt))

pub listed_ascends : (y : Machine) → ascending (listed y) ≡ true
listed_ascends y = rising_ascending (listed y) (listed_rising y)

module _ (y : Machine) where
  tags_of_node : (l : ℕ) → ¬ (l ≡ 0) → node_tags y l ≡ concat_map (placed_tags y) (places y.nodes (number l))
  unfolding node_tags
  tags_of_node l d = if_true (filled l) _ _ (true_filled l d)

  tags_of_place : (p : ℕ) → ¬ (p ≡ 0) → placed_tags y p ≡ tags_of y p
  unfolding placed_tags
  tags_of_place p d = if_true (filled p) _ _ (true_filled p d)

  among_places : (l i : ℕ) → i < 32 → ¬ (place_of y l i ≡ 0) → member (place_of y l i) (places y.nodes (number l)) ≡ true
  unfolding place_of place places
  among_places l i h d = has_take (place_of y l i) 32 (drop (34 * number l + 2) y.nodes) i d h (get_or-drop (34 * number l + 2) y.nodes i 0)

  pub in_bucket_means : (p k : ℕ) → in_bucket y p k ≡ true → (¬ (p ≡ 0)) × (member k (tags_of y p) ≡ true)
  unfolding in_bucket
  in_bucket_means p k e = let q = and2 (filled p) (member k (tags_of y p)) e in (filled_true p q.0, q.1)

  pub means_in_bucket : (p k : ℕ) → ¬ (p ≡ 0) → member k (tags_of y p) ≡ true → in_bucket y p k ≡ true
  unfolding in_bucket
  means_in_bucket p k n e = and_i (filled p) (member k (tags_of y p)) (true_filled p n) e

  pub in_set_means : (k : ℕ) → in_set y k ≡ true → (in_bucket y (place_for y (head_of y) k) k ≡ true)
      ⊎ ((place_for y (head_of y) k ≡ 0) × (¬ (pred_of y (head_of y) ≡ 0)) × (in_bucket y (place_for y (pred_of y (head_of y)) k) k ≡ true))
  unfolding in_set
  in_set_means k e = go (filled (place_for y (head_of y) k)) refl e
    where
      rest : Bool
      rest = filled (pred_of y (head_of y)) && in_bucket y (place_for y (pred_of y (head_of y)) k) k

      go : (b : Bool) → filled (place_for y (head_of y) k) ≡ b → (if b then in_bucket y (place_for y (head_of y) k) k else rest) ≡ true
          → (in_bucket y (place_for y (head_of y) k) k ≡ true)
          ⊎ ((place_for y (head_of y) k ≡ 0) × (¬ (pred_of y (head_of y) ≡ 0)) × (in_bucket y (place_for y (pred_of y (head_of y)) k) k ≡ true))
      go true q h = inl h
      go false q h =
          let r = and2 (filled (pred_of y (head_of y))) (in_bucket y (place_for y (pred_of y (head_of y)) k) k) h in
          inr (filled_false (place_for y (head_of y) k) q, filled_true (pred_of y (head_of y)) r.0, r.1)

module _ (y : Machine) (f : SoundFacts y) where
  pub head_link : NodeLink y (head_of y)
  unfolding head_of
  head_link = let h = f.head in let e : number (link y.state.head) ≡ y.state.head = omega arith in
      record { within = omega arith; sized = λ d. rw e f.head_sized }

  pub pred_link : NodeLink y (pred_of y (head_of y))
  unfolding head_of pred_of
  pred_link = let e : number (link y.state.head) ≡ y.state.head = omega arith in rw e (f.node y.state.head f.head).pred_ok

  pub head_filled : ¬ (head_of y ≡ 0)
  unfolding head_of
  head_filled e = omega arith

  pub size_low : (l : ℕ) → NodeLink y l → ¬ (l ≡ 0) → 0 < size_of y l
  unfolding size_of
  size_low l g d = let z = listed_low (named y f l g d).size in omega arith

  -- a tag's place in a node is one of its 32
  pub slot_low : (l : ℕ) → NodeLink y l → ¬ (l ≡ 0) → (k : ℕ) → slot y.state.config k (size_of y l) < size_of y l
  unfolding slot
  slot_low l g d k = mod-lt _ (size_low l g d)

  pub size_high : (l : ℕ) → NodeLink y l → ¬ (l ≡ 0) → size_of y l ≤ 32
  unfolding size_of
  size_high l g d = listed_high (named y f l g d).size

  -- a tag that its place of a node decides is among the node's tags
  pub node_has : (l : ℕ) → NodeLink y l → ¬ (l ≡ 0) → (k : ℕ) → in_bucket y (place_for y l k) k ≡ true → member k (node_tags y l) ≡ true
  unfolding place_for
  node_has l g d k e =
      let q = in_bucket_means y (place_for y l k) k e in
      let a = slot_low l g d k in
      let b = size_high l g d in
      rw (tags_of_node y l d)
      (from_join (placed_tags y) k (place_for y l k) (places y.nodes (number l))
      (among_places y l (slot y.state.config k (size_of y l)) (omega arith) q.0)
      (ap (member k) (tags_of_place y (place_for y l k) q.0) ∙ q.1))

  -- a tag is listed exactly if it is in the set
  pub listed_member : (k : ℕ) → member k (listed y) ≡ in_set y k
  unfolding listed
  listed_member k = member_filter k (in_set y) all ∙ go (bool? (in_set y k))
    where
      first : List ℕ
      first = node_tags y (head_of y)

      second : List ℕ
      second = node_tags y (pred_of y (head_of y))

      all : List ℕ
      all = union first (union second [])

      named_first : member k first ≡ true → member k all ≡ true
      named_first h = member_union k first (union second []) ∙ or_l (member k first) _ h

      named_second : member k second ≡ true → member k all ≡ true
      named_second h = member_union k first (union second []) ∙ or_r (member k first) _ (member_union k second [] ∙ or_l (member k second) _ h)

      has : in_set y k ≡ true → member k all ≡ true
      has e = elim (in_set_means y k e) [
        | inl h ↦ named_first (node_has (head_of y) head_link head_filled k h)
        | inr h ↦ named_second (node_has (pred_of y (head_of y)) pred_link h.1 k h.2)
      ]

      go : (in_set y k ≡ true) ⊎ (in_set y k ≡ false) → (in_set y k && member k all) ≡ in_set y k
      go (inl t) = rw (t, has t)
      go (inr t) = rw t
