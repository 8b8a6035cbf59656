-- What splitting and merging keep (paper 02, U3: "shown for any such rule, then applied to both"). A rule says what of a tag is taken mod a
-- node's size. A bucket of place j at size s splits into the places j and j + s at size 2s: each tag goes to exactly one of them.
-- Two such buckets merge into exactly the tags of place j at size s. Then line 49 does so under the rule of its set, in both versions.
-- Assumes nothing.
use Rattle.std.specs.Prelude.{ℕ, suc, ◌+◌, ◌*◌, ◌/◌, ◌%◌, ◌<◌, ◌≡◌, ◌⊎◌, Bool, false, ◌&&◌, ◌||◌, ltb, length}
use Rattle.std.proofs.Math.Path.{refl}
use Rattle.std.proofs.Common.{sym, ap, ◌∙◌, inl, inr, mod-lt, mod-eq_of_lt, arith}
use mathlib.Core.List.{List, [], ◌∷◌}
use Rattle.std.proofs.Math.Bool.{true, and-false}
use Rattle.std.proofs.Math.Nat.{add-mod_right}
use Rattle.std.proofs.Math.Decide.{ℕ_discrete}
use borrow.Author.Tests.{eqb-true, eq-eqb, ne_eqb}
use Rattle.std.proofs.Math.Dec.{eqb}
use Rattle.spec.specs.declared.Config.{Config}
use Rattle.spec.specs.declared.Task.{Task}
use Rattle.spec.specs.Lists.{member, filter, add_tag, union}
use Rattle.spec.specs.Machine.{Machine, with_version}
use Rattle.spec.specs.Words.{filled}
use Rattle.spec.specs.Listed.{size_of, tags_of, key, slot}
use Rattle.spec.specs.Lines.{gathered}
use Rattle.laws.specs.Tests.{bool?, or_none}
use Rattle.laws.specs.Lists.{member_here, member_there}
use Rattle.laws.specs.Ascending.{Rising, member_filter, member_union, rising_union}
use Rattle.model.specs.Slots.{mod_grown, mod_shrunk}

-- ---- numbers

-- a place's two places at twice the size have its number as their rest
rest_low : (j s : ℕ) → j < s → j % s ≡ j
rest_low j s h = mod-eq_of_lt h

rest_high : (j s : ℕ) → j < s → (j + s) % s ≡ j
rest_high j s h = add-mod_right j s ∙ mod-eq_of_lt h

same_shifted : (r j s : ℕ) → eqb (r + s) (j + s) ≡ eqb r j
same_shifted r j s = go (ℕ_discrete r j)
  where
    go : Dec (r ≡ j) → eqb (r + s) (j + s) ≡ eqb r j
    go (yes e) = rw (eq-eqb r j e, eq-eqb (r + s) (j + s) (ap (λ (n : ℕ). n + s) e))
    go (no d) = rw (ne_eqb r j d, ne_eqb (r + s) (j + s) (λ e. d (omega arith)))

or_false : (b : Bool) → (b || false) ≡ b
or_false true = refl
or_false false = refl

-- x has the rest r: it is one of j and j + s exactly if r is j
one_of_both : (x r j s : ℕ) → r < s → j < s → (x ≡ r) ⊎ (x ≡ r + s) → (eqb x j || eqb x (j + s)) ≡ eqb r j
one_of_both x r j s a b (inl e) = rw (e, ne_eqb r (j + s) (λ q. omega arith)) (or_false (eqb r j))
one_of_both x r j s a b (inr e) = rw (e, ne_eqb (r + s) j (λ q. omega arith)) (same_shifted r j s)

-- ---- for any rule

module _ (rule : ℕ → ℕ) where
  -- the list has exactly those tags of the set whose place is i at size n
  abbrev pub HoldsPlace : (ℕ → Bool) → ℕ → ℕ → List ℕ → Type 0
  HoldsPlace has n i ks = (k : ℕ) → member k ks ≡ (has k && eqb (rule k % n) i)

  -- the tags of the list whose place is i at size n
  abbrev pub part_of : ℕ → ℕ → List ℕ → List ℕ
  part_of n i ks = filter (λ k. eqb (rule k % n) i) ks

  module _ (s j : ℕ) (lt : j < s) where
    part_holds : (has : ℕ → Bool) (i : ℕ) (ks : List ℕ) → i % s ≡ j → HoldsPlace has s j ks → HoldsPlace has (2 * s) i (part_of (2 * s) i ks)
    part_holds has i ks e h k = member_filter k (λ n. eqb (rule n % (2 * s)) i) ks ∙ rw (h k) (go (bool? (eqb (rule k % (2 * s)) i)))
      where
        go : (eqb (rule k % (2 * s)) i ≡ true) ⊎ (eqb (rule k % (2 * s)) i ≡ false)
            → (eqb (rule k % (2 * s)) i && (has k && eqb (rule k % s) j)) ≡ (has k && eqb (rule k % (2 * s)) i)
        go (inl p) =
            let rest : rule k % s ≡ j = sym (mod_grown (rule k) (2 * s) s refl) ∙ ap (λ (n : ℕ). n % s) (eqb-true _ _ p) ∙ e in
            rw (p, eq-eqb (rule k % s) j rest)
        go (inr p) = rw p (sym (and-false (has k)))

    -- nothing lost, nothing put elsewhere: both parts hold exactly their places
    pub split_holds : (has : ℕ → Bool) (ks : List ℕ) → HoldsPlace has s j ks
        → HoldsPlace has (2 * s) j (part_of (2 * s) j ks) × HoldsPlace has (2 * s) (j + s) (part_of (2 * s) (j + s) ks)
    split_holds has ks h = (part_holds has j ks (rest_low j s lt) h, part_holds has (j + s) ks (rest_high j s lt) h)

    halves : (k : ℕ) → (eqb (rule k % (2 * s)) j || eqb (rule k % (2 * s)) (j + s)) ≡ eqb (rule k % s) j
    halves k =
        let pos : 0 < s = omega arith in
        one_of_both (rule k % (2 * s)) (rule k % s) j s (mod-lt (rule k) pos) lt (mod_shrunk (rule k) s (2 * s) pos refl)

    never_both : (k : ℕ) → eqb (rule k % (2 * s)) j ≡ true → eqb (rule k % (2 * s)) (j + s) ≡ false
    never_both k p = let e = eqb-true (rule k % (2 * s)) j p in ne_eqb (rule k % (2 * s)) (j + s) (λ q. omega arith)

    -- each tag goes to exactly one of the two parts
    pub split_in_one : (ks : List ℕ) (k : ℕ) → member k ks ≡ true → rule k % s ≡ j
        → ((member k (part_of (2 * s) j ks) ≡ true) × (member k (part_of (2 * s) (j + s) ks) ≡ false))
        ⊎ ((member k (part_of (2 * s) j ks) ≡ false) × (member k (part_of (2 * s) (j + s) ks) ≡ true))
    split_in_one ks k m e = go (bool? (eqb (rule k % (2 * s)) j))
      where
        in_part : (i : ℕ) → member k (part_of (2 * s) i ks) ≡ eqb (rule k % (2 * s)) i
        in_part i = member_filter k (λ n. eqb (rule n % (2 * s)) i) ks ∙ rw m (and_true (eqb (rule k % (2 * s)) i))
          where
            and_true : (b : Bool) → (b && true) ≡ b
            and_true true = refl
            and_true false = refl

        one : (eqb (rule k % (2 * s)) j || eqb (rule k % (2 * s)) (j + s)) ≡ true
        one = halves k ∙ eq-eqb (rule k % s) j e

        go : (eqb (rule k % (2 * s)) j ≡ true) ⊎ (eqb (rule k % (2 * s)) j ≡ false)
            → ((member k (part_of (2 * s) j ks) ≡ true) × (member k (part_of (2 * s) (j + s) ks) ≡ false))
            ⊎ ((member k (part_of (2 * s) j ks) ≡ false) × (member k (part_of (2 * s) (j + s) ks) ≡ true))
        go (inl p) = inl (in_part j ∙ p, in_part (j + s) ∙ never_both k p)
        go (inr p) = inr (in_part j ∙ p, in_part (j + s) ∙ rw p at one)

    -- nothing lost, nothing doubled: the parts' lengths add up
    pub split_counts : (ks : List ℕ) → ((k : ℕ) → member k ks ≡ true → rule k % s ≡ j)
        → length (part_of (2 * s) j ks) + length (part_of (2 * s) (j + s) ks) ≡ length ks
    unfolding filter
    split_counts [] h = refl
    split_counts (k ∷ ks) h = go (bool? (eqb (rule k % (2 * s)) j)) (split_counts ks (λ n m. h n (member_there n k ks m)))
      where
        one : (eqb (rule k % (2 * s)) j || eqb (rule k % (2 * s)) (j + s)) ≡ true
        one = halves k ∙ eq-eqb (rule k % s) j (h k (member_here k k ks refl))

        go : (eqb (rule k % (2 * s)) j ≡ true) ⊎ (eqb (rule k % (2 * s)) j ≡ false)
            → length (part_of (2 * s) j ks) + length (part_of (2 * s) (j + s) ks) ≡ length ks
            → length (part_of (2 * s) j (k ∷ ks)) + length (part_of (2 * s) (j + s) (k ∷ ks)) ≡ suc (length ks)
        go (inl p) ih = rw (p, never_both k p) (omega arith)
        go (inr p) ih = rw (p, rw p at one) (omega arith)

    -- two halves join into exactly the tags of their place at half the size
    pub merge_holds : (has : ℕ → Bool) (a b : List ℕ) → HoldsPlace has (2 * s) j a → HoldsPlace has (2 * s) (j + s) b → HoldsPlace has s j (union a b)
    merge_holds has a b p q k =
        member_union k a b ∙ rw (p k, q k, sym (halves k)) (both (has k) (eqb (rule k % (2 * s)) j) (eqb (rule k % (2 * s)) (j + s)))
      where
        both : (x u v : Bool) → ((x && u) || (x && v)) ≡ (x && (u || v))
        both true u v = refl
        both false u v = refl

-- each once, under any rule: the union of two ascending lists ascends, and it is as long as both together where they share no tag
pub merge_ascends : (a b : List ℕ) → Rising b → Rising (union a b)
merge_ascends a b r = rising_union a b r

length_added : (k : ℕ) (l : List ℕ) → member k l ≡ false → length (add_tag k l) ≡ suc (length l)
unfolding add_tag member
length_added k [] h = refl
length_added k (x ∷ l) h = go (bool? (ltb k x)) (length_added k l (or_none (eqb k x) (member k l) h).1)
  where
    go : (ltb k x ≡ true) ⊎ (ltb k x ≡ false) → length (add_tag k l) ≡ suc (length l) → length (add_tag k (x ∷ l)) ≡ suc (suc (length l))
    go (inl p) ih = rw p
    go (inr p) ih = rw (p, (or_none (eqb k x) (member k l) h).0) (ap suc ih)

pub merge_counts : (a b : List ℕ) → Rising a → ((k : ℕ) → member k a ≡ true → member k b ≡ false) → length (union a b) ≡ length a + length b
unfolding union
merge_counts [] b p h = omega arith
merge_counts (k ∷ a) b p h =
    length_added k (union a b) absent ∙ (let rest = merge_counts a b p.1 (λ n m. h n (member_there n k a m)) in omega arith)
  where
    new : member k a ≡ false
    new = elim (bool? (member k a)) [ inl e ↦ (let z = p.0 k e in absurd (omega arith)) | inr e ↦ e ]

    absent : member k (union a b) ≡ false
    absent = member_union k a b ∙ rw (new, h k (member_here k k a refl))

-- ---- line 49, under the rule of its set

module _ (y : Machine) (c : Task) (has : ℕ → Bool) where
  -- after a grow, with n empty: m is s's bucket for place j, the new bucket is t's for place i
  pub line_49_splits : (s j : ℕ) → j < s → size_of y c.t ≡ 2 * s → c.i % s ≡ j → filled c.n ≡ false
      → HoldsPlace (key y.state.config) has s j (tags_of y c.m)
      → HoldsPlace (key y.state.config) has (2 * s) c.i (gathered y c)
  unfolding gathered slot
  line_49_splits s j lt e r n h = rw (n, e) (part_holds (key y.state.config) s j lt has c.i (tags_of y c.m) r h)

  -- after a shrink: m and n are the buckets for places i and i + s of a node twice as large as t
  pub line_49_merges : (s : ℕ) → c.i < s → filled c.n ≡ true
      → HoldsPlace (key y.state.config) has (2 * s) c.i (tags_of y c.m)
      → HoldsPlace (key y.state.config) has (2 * s) (c.i + s) (tags_of y c.n)
      → HoldsPlace (key y.state.config) has s c.i (gathered y c)
  unfolding gathered
  line_49_merges s lt n p q = rw n (merge_holds (key y.state.config) s c.i lt has (tags_of y c.m) (tags_of y c.n) p q)

-- ---- both versions

-- the rule of version 1, and of version 2
abbrev pub whole_tag : ℕ → ℕ
whole_tag k = k

abbrev pub without_digit : ℕ → ℕ
without_digit k = k / 10

pub rule_1 : (g : Config) → key (with_version 1 g) ≡ (λ k. whole_tag k)
unfolding key
rule_1 g = refl

pub rule_2 : (g : Config) → key (with_version 2 g) ≡ (λ k. without_digit k)
unfolding key
rule_2 g = refl

module _ (s j : ℕ) (lt : j < s) (has : ℕ → Bool) where
  pub split_version_1 : (ks : List ℕ) → HoldsPlace whole_tag has s j ks
      → HoldsPlace whole_tag has (2 * s) j (part_of whole_tag (2 * s) j ks)
      × HoldsPlace whole_tag has (2 * s) (j + s) (part_of whole_tag (2 * s) (j + s) ks)
  split_version_1 = split_holds whole_tag s j lt has

  pub split_version_2 : (ks : List ℕ) → HoldsPlace without_digit has s j ks
      → HoldsPlace without_digit has (2 * s) j (part_of without_digit (2 * s) j ks)
      × HoldsPlace without_digit has (2 * s) (j + s) (part_of without_digit (2 * s) (j + s) ks)
  split_version_2 = split_holds without_digit s j lt has

  pub merge_version_1 : (a b : List ℕ) → HoldsPlace whole_tag has (2 * s) j a → HoldsPlace whole_tag has (2 * s) (j + s) b
      → HoldsPlace whole_tag has s j (union a b)
  merge_version_1 = merge_holds whole_tag s j lt has

  pub merge_version_2 : (a b : List ℕ) → HoldsPlace without_digit has (2 * s) j a → HoldsPlace without_digit has (2 * s) (j + s) b
      → HoldsPlace without_digit has s j (union a b)
  merge_version_2 = merge_holds without_digit s j lt has
