-- In a sound machine the tags that the code meets are those listed, each once: so they are counted by their number, and gathered they are
-- `listed`. Assumes nothing.
use Rattle.std.specs.Prelude.{if◌then◌else◌}
use mathlib.Core.Path.{◌≡◌, refl, sym, ap, ◌∙◌}
use mathlib.Core.Logic.{◌⊎◌, inl, inr}
use mathlib.Core.List.{List, [], ◌++◌}
use mathlib.Core.Bool.{Bool, true, false, ◌||◌}
use Prim.Native.Nat.{ℕ, zero, suc, ◌+◌, ◌<◌, ◌≤◌}
use native.Mathlib.Omega.{arith}
use native.Mathlib.Decide.{ℕ_discrete}
use borrow.Author.Tests.{eqb-true, eq-eqb, ne_eqb}
use lib.Dec.{eqb}
use lib.ListN.{length}
use Rattle.spec.specs.declared.Config.{Config}
use Rattle.spec.specs.Lists.{member, filter}
use Rattle.spec.specs.Machine.{Machine}
use Rattle.spec.specs.Words.{number, filled, size, pred, place, tags}
use Rattle.spec.specs.Sound.{sound, bucket_count}
use Rattle.spec.specs.Listed.{slot, size_of, pred_of, place_of, place_for, tags_of, head_of, in_bucket, in_set, listed}
use Rattle.laws.specs.Tests.{and2, and_i, or_e, or_l, or_r, if_true, if_false, same_test}
use Rattle.laws.specs.Lists.{member_append, no_member}
use Rattle.laws.specs.Ascending.{Rising, ascending_rising, member_filter, rising_filter}
use Rattle.laws.specs.SoundFacts.{NodeLink, SoundFacts}
use Rattle.laws.specs.Soundness.{sound_facts}
use Rattle.laws.specs.Links.{true_filled, false_filled}
use Rattle.laws.specs.Listing.{listed_rising, in_bucket_means, means_in_bucket, in_set_means, listed_member}
use Rattle.laws.specs.Listing.{head_link, pred_link, head_filled, slot_low, size_high}
use Rattle.pool.proofs.Facts.{link_of}
use Rattle.pool.proofs.At.{tags_here, ascends}
use Rattle.looked_up.specs.LookedUp.{left_over, looked_up}
use Rattle.listing_place.specs.PlaceTags.{linked_tags, place_tags}
use Rattle.listing.specs.Listing.{places_tags, set_tags, adds, nothing}
use Rattle.listing.proofs.Sets.{Distinct, rising_distinct, append_distinct, rising_same, Holds, holds_all, holds_none}
use Rattle.listing.proofs.Sets.{add_all, rising_add_all, member_add_all, length_add_all}

-- ---- the places of a node, for any words

module _ (g : Config) (ns bs : List ℕ) (head k : ℕ) (old : Bool) where
  -- the number of the tag's place
  abbrev pub spot : ℕ → ℕ
  spot t = slot g t (size ns k)

  -- the tag is met at n places from j on
  pub record Met (t j n : ℕ) : Type 0 where
    pub low : j ≤ spot t
    pub high : spot t < j + n
    pub there : member t (linked_tags bs (place ns k (spot t))) ≡ true
    pub free : left_over g ns head old t ≡ true

  at_place : (j t : ℕ) → member t (place_tags g ns bs head k old j) ≡ true → Met t j 1
  unfolding place_tags looked_up
  at_place j t e =
      let a = and2 (looked_up g ns head k old j t) _ (sym (member_filter t (looked_up g ns head k old j) (linked_tags bs (place ns k j))) ∙ e) in
      let b = and2 (eqb (spot t) j) (left_over g ns head old t) a.0 in
      let q : spot t ≡ j = eqb-true (spot t) j b.0 in
      record { low = omega arith; high = omega arith; there = rw q a.1; free = b.1 }

  place_at : (j t : ℕ) → spot t ≡ j → member t (linked_tags bs (place ns k (spot t))) ≡ true → left_over g ns head old t ≡ true
      → member t (place_tags g ns bs head k old j) ≡ true
  unfolding place_tags looked_up
  place_at j t q h f =
      member_filter t (looked_up g ns head k old j) (linked_tags bs (place ns k j))
      ∙ and_i (looked_up g ns head k old j t) _ (and_i (eqb (spot t) j) (left_over g ns head old t) (eq-eqb (spot t) j q) f) (rw q at h)

  pub met : (j n t : ℕ) → member t (places_tags g ns bs head k old j n) ≡ true → Met t j n
  unfolding places_tags
  met j zero t e = absurd (no_member t e)
  met j (suc n) t e =
      let here = place_tags g ns bs head k old j in
      go (or_e (member t here) _ (sym (member_append t here (places_tags g ns bs head k old (suc j) n)) ∙ e)) (met (suc j) n t)
    where
      go : (member t (place_tags g ns bs head k old j) ≡ true) ⊎ (member t (places_tags g ns bs head k old (suc j) n) ≡ true)
          → (member t (places_tags g ns bs head k old (suc j) n) ≡ true → Met t (suc j) n) → Met t j (suc n)
      go (inl h) ih = let m = at_place j t h in record { low = m.low; high = let u = m.high in omega arith; there = m.there; free = m.free }
      go (inr h) ih = let m = ih h in record { low = let u = m.low in omega arith; high = let u = m.high in omega arith; there = m.there; free = m.free }

  pub meets : (j n t : ℕ) → Met t j n → member t (places_tags g ns bs head k old j n) ≡ true
  unfolding places_tags
  meets j zero t m = let a = m.low in let b = m.high in absurd (omega arith)
  meets j (suc n) t m =
      member_append t (place_tags g ns bs head k old j) (places_tags g ns bs head k old (suc j) n)
      ∙ go (ℕ_discrete (spot t) j) (meets (suc j) n t)
    where
      go : Dec (spot t ≡ j) → (Met t (suc j) n → member t (places_tags g ns bs head k old (suc j) n) ≡ true)
          → (member t (place_tags g ns bs head k old j) || member t (places_tags g ns bs head k old (suc j) n)) ≡ true
      go (yes q) ih = or_l _ _ (place_at j t q m.there m.free)
      go (no d) ih =
          let a = m.low in
          let b = m.high in
          or_r (member t (place_tags g ns bs head k old j)) _ (ih record { low = omega (arith, d); high = omega arith; there = m.there; free = m.free })

  -- no tag is met twice
  pub places_distinct : ((i : ℕ) → i < 32 → Rising (linked_tags bs (place ns k i))) → (j n : ℕ) → j + n ≤ 32 → Distinct (places_tags g ns bs head k old j n)
  unfolding places_tags place_tags
  places_distinct up j zero h = tt
  places_distinct up j (suc n) h =
      let f = looked_up g ns head k old j in
      let ts = linked_tags bs (place ns k j) in
      append_distinct (place_tags g ns bs head k old j) (places_tags g ns bs head k old (suc j) n)
      (rising_distinct (filter f ts) (rising_filter f ts (up j (omega arith))))
      (places_distinct up (suc j) n (omega arith))
      (λ t p q. let a = (at_place j t p).high in let b = (met (suc j) n t q).low in omega arith)

-- ---- in a sound machine

module _ (y : Machine) (s : sound y ≡ true) where
  facts : SoundFacts y
  facts = sound_facts y s

  linked_is : (l : ℕ) → l ≤ bucket_count y → (l ≡ 0 → ⊥) → linked_tags y.buckets l ≡ tags_of y l
  unfolding linked_tags tags_of
  linked_is l h z =
      let f = link_of y s l h in
      let a = f.fits in
      rw (ne_eqb l 0 z) (tags_here y.buckets (number l) (f.good (omega (arith, z))) (omega (arith, z)))

  linked_none : (l : ℕ) → l ≡ 0 → linked_tags y.buckets l ≡ []
  unfolding linked_tags
  linked_none l z = rw (eq-eqb l 0 z)

  tags_rising : (l : ℕ) → l ≤ bucket_count y → (l ≡ 0 → ⊥) → Rising (tags_of y l)
  unfolding tags_of
  tags_rising l h z = ascending_rising (tags y.buckets (number l)) (ascends y.buckets (number l) ((link_of y s l h).good (omega (arith, z))))

  linked_rising : (l : ℕ) → l ≤ bucket_count y → Rising (linked_tags y.buckets l)
  linked_rising l h = go (ℕ_discrete l 0)
    where
      go : Dec (l ≡ 0) → Rising (linked_tags y.buckets l)
      go (yes z) = rw (linked_none l z) tt
      go (no z) = rw (linked_is l h z) (tags_rising l h z)

  linked_member : (l t : ℕ) → l ≤ bucket_count y → member t (linked_tags y.buckets l) ≡ true → in_bucket y l t ≡ true
  linked_member l t h e = go (ℕ_discrete l 0)
    where
      go : Dec (l ≡ 0) → in_bucket y l t ≡ true
      go (yes z) = absurd (no_member t (ap (member t) (sym (linked_none l z)) ∙ e))
      go (no z) = means_in_bucket y l t z (ap (member t) (sym (linked_is l h z)) ∙ e)

  member_linked : (l t : ℕ) → l ≤ bucket_count y → in_bucket y l t ≡ true → member t (linked_tags y.buckets l) ≡ true
  member_linked l t h e = let q = in_bucket_means y l t e in ap (member t) (linked_is l h q.0) ∙ q.1

  -- a node of the pool: its places are links, and a tag's place is one of the 32
  module _ (l : ℕ) (g : NodeLink y l) (d : ¬ (l ≡ 0)) where
    link_low : (i : ℕ) → i < 32 → place y.nodes (number l) i ≤ bucket_count y
    link_low i h = let w = g.within in (facts.node (number l) (omega (arith, d))).place_ok i h

    spot_low : (t : ℕ) → slot y.state.config t (size y.nodes (number l)) < 32
    unfolding size_of
    spot_low t = let a = slot_low y facts l g d t in let b = size_high y facts l g d in omega arith

  abbrev Q : ℕ
  Q = pred y.nodes y.state.head

  head_is : number (head_of y) ≡ y.state.head
  unfolding head_of
  head_is = omega arith

  pred_is : pred_of y (head_of y) ≡ Q
  unfolding pred_of
  pred_is = ap (pred y.nodes) head_is

  abbrev P : ℕ → ℕ
  P t = place y.nodes y.state.head (slot y.state.config t (size y.nodes y.state.head))

  place_is : (t : ℕ) → place_for y (head_of y) t ≡ P t
  unfolding place_for place_of size_of
  place_is t = ap (λ (k : ℕ). place y.nodes k (slot y.state.config t (size y.nodes k))) head_is

  abbrev R : ℕ → ℕ
  R t = place y.nodes (number Q) (slot y.state.config t (size y.nodes (number Q)))

  old_place_is : (t : ℕ) → place_for y (pred_of y (head_of y)) t ≡ R t
  unfolding place_for place_of size_of
  old_place_is t = ap (λ (l : ℕ). place y.nodes (number l) (slot y.state.config t (size y.nodes (number l)))) pred_is

  -- the head's number and its predecessor's link, as links of the pool
  head_places : (i : ℕ) → i < 32 → place y.nodes y.state.head i ≤ bucket_count y
  head_places i h = rw head_is at (link_low (head_of y) (head_link y facts) (head_filled y facts) i h)

  head_spot : (t : ℕ) → slot y.state.config t (size y.nodes y.state.head) < 32
  head_spot t = rw head_is at (spot_low (head_of y) (head_link y facts) (head_filled y facts) t)

  old_link : NodeLink y Q
  old_link = rw pred_is at (pred_link y facts)

  in_set_head : (t : ℕ) → ¬ (P t ≡ 0) → in_set y t ≡ in_bucket y (P t) t
  unfolding in_set
  in_set_head t d = rw (place_is t) (if_true (filled (P t)) _ _ (true_filled (P t) d))

  in_set_old : (t : ℕ) → P t ≡ 0 → ¬ (Q ≡ 0) → in_set y t ≡ in_bucket y (R t) t
  unfolding in_set
  in_set_old t z d = rw (place_is t, old_place_is t, pred_is) (if_false (filled (P t)) _ _ (false_filled (P t) z) ∙ rw (true_filled Q d))

  abbrev first : List ℕ
  first = places_tags y.state.config y.nodes y.buckets y.state.head y.state.head false 0 32

  abbrev second : List ℕ
  second = if filled Q then places_tags y.state.config y.nodes y.buckets y.state.head (number Q) true 0 32 else []

  -- what each of the two lists says of its tags
  of_first : (t : ℕ) → member t first ≡ true → (¬ (P t ≡ 0)) × (in_bucket y (P t) t ≡ true)
  of_first t e =
      let m = met y.state.config y.nodes y.buckets y.state.head y.state.head false 0 32 t e in
      let b = linked_member (P t) t (head_places _ (head_spot t)) m.there in
      ((in_bucket_means y (P t) t b).0, b)

  second_on : ¬ (Q ≡ 0) → second ≡ places_tags y.state.config y.nodes y.buckets y.state.head (number Q) true 0 32
  second_on d = if_true (filled Q) _ _ (true_filled Q d)

  second_off : Q ≡ 0 → second ≡ []
  second_off z = if_false (filled Q) _ _ (false_filled Q z)

  empty_of : (t : ℕ) → left_over y.state.config y.nodes y.state.head true t ≡ true → P t ≡ 0
  unfolding left_over
  empty_of t f = eqb-true (P t) 0 f

  of_second : (t : ℕ) → member t second ≡ true → (P t ≡ 0) × (¬ (Q ≡ 0)) × (in_bucket y (R t) t ≡ true)
  of_second t e = go (ℕ_discrete Q 0)
    where
      go : Dec (Q ≡ 0) → (P t ≡ 0) × (¬ (Q ≡ 0)) × (in_bucket y (R t) t ≡ true)
      go (yes z) = absurd (no_member t (ap (member t) (sym (second_off z)) ∙ e))
      go (no d) =
          let m = met y.state.config y.nodes y.buckets y.state.head (number Q) true 0 32 t (ap (member t) (sym (second_on d)) ∙ e) in
          (empty_of t m.free, d, linked_member (R t) t (link_low Q old_link d _ (spot_low Q old_link d t)) m.there)

  on_first : (t : ℕ) → in_bucket y (P t) t ≡ true → member t first ≡ true
  unfolding left_over
  on_first t b = meets y.state.config y.nodes y.buckets y.state.head y.state.head false 0 32 t
      record { low = omega arith; high = let h = head_spot t in omega arith; there = member_linked (P t) t (head_places _ (head_spot t)) b; free = refl }

  on_second : (t : ℕ) → P t ≡ 0 → ¬ (Q ≡ 0) → in_bucket y (R t) t ≡ true → member t second ≡ true
  unfolding left_over
  on_second t z d b =
      let h = spot_low Q old_link d t in
      ap (member t) (second_on d) ∙ meets y.state.config y.nodes y.buckets y.state.head (number Q) true 0 32 t
      record { low = omega arith; high = omega arith; there = member_linked (R t) t (link_low Q old_link d _ h) b; free = eq-eqb (P t) 0 z }

  pub set_member : (t : ℕ) → member t (set_tags y.state.config y.nodes y.buckets y.state.head) ≡ in_set y t
  unfolding set_tags
  set_member t = same_test _ _ forward backward
    where
      forward : member t (first ++ second) ≡ true → in_set y t ≡ true
      forward e = elim (or_e (member t first) (member t second) (sym (member_append t first second) ∙ e)) [
        | inl h ↦ (let a = of_first t h in in_set_head t a.0 ∙ a.1)
        | inr h ↦ (let a = of_second t h in in_set_old t a.0 a.1 ∙ a.2)
      ]

      backward : in_set y t ≡ true → member t (first ++ second) ≡ true
      backward e = member_append t first second ∙ elim (in_set_means y t e) [
        | inl h ↦ or_l _ _ (on_first t (rw (place_is t) at h))
        | inr h ↦ or_r (member t first) _ (on_second t (sym (place_is t) ∙ h.0) (λ z. h.1 (pred_is ∙ z)) (rw (old_place_is t) at h.2))
      ]

  distinct : Distinct (set_tags y.state.config y.nodes y.buckets y.state.head)
  unfolding set_tags
  distinct = append_distinct first second
      (places_distinct y.state.config y.nodes y.buckets y.state.head y.state.head false
      (λ i h. linked_rising _ (head_places i h)) 0 32 (omega arith))
      (go (ℕ_discrete Q 0))
      (λ t p q. (of_first t p).0 (of_second t q).0)
    where
      go : Dec (Q ≡ 0) → Distinct second
      go (yes z) = rw (second_off z) tt
      go (no d) = rw (second_on d) (places_distinct y.state.config y.nodes y.buckets y.state.head (number Q) true
          (λ i h. linked_rising _ (link_low Q old_link d i h)) 0 32 (omega arith))

  pub all_listed : add_all [] (set_tags y.state.config y.nodes y.buckets y.state.head) ≡ listed y
  unfolding member
  all_listed =
      let L = set_tags y.state.config y.nodes y.buckets y.state.head in
      rising_same (add_all [] L) (listed y) (rising_add_all [] L tt) (listed_rising y)
      (λ t. member_add_all t [] L ∙ set_member t ∙ sym (listed_member y facts t))

  -- as many as are listed
  pub counted : length (set_tags y.state.config y.nodes y.buckets y.state.head) ≡ length (listed y)
  unfolding member
  counted =
      let L = set_tags y.state.config y.nodes y.buckets y.state.head in
      let e = length_add_all [] L tt distinct (λ n h. refl) in
      let f = ap length all_listed in
      omega arith

  -- those that are listed
  pub gathered : Holds (adds nothing (set_tags y.state.config y.nodes y.buckets y.state.head)) (listed y)
  gathered = rw all_listed at (holds_all nothing (set_tags y.state.config y.nodes y.buckets y.state.head) [] holds_none)
