-- One walk through two ascending lists of tags makes their union. Assumes nothing.
use Prim.Native.Nat.{ℕ, zero, suc, ◌+◌, ◌≤◌, ◌<◌}
use mathlib.Core.Path.{◌≡◌, refl, sym, ap, ◌∙◌}
use mathlib.Core.List.{List, [], ◌∷◌, ◌++◌, append-nil}
use native.Mathlib.Omega.{arith}
use borrow.Author.Tests.{lt-ltb, le-ltb, ne_eqb, ltb-true, ltb-false, eqb-true, eqb-false}
use lib.Dec.{ltb, eqb}
use lib.ListN.{length, drop, length-append, drop_of_length-le}
use lib.Seq.{append_snoc}
use Rattle.spec.specs.Lists.{member, add_tag, union}
use Rattle.laws.specs.Tests.{choose, or_case}
use Rattle.laws.specs.Lists.{member_here, member_there}
use Rattle.laws.specs.Ascending.{Above, Rising, above_nil, above_cons, above_less, member_union}
use Rattle.bucket_copies.specs.declared.Taken.{Taken}
use Rattle.bucket_copies.specs.Walk.{next_of}

-- ---- one tag

add_first : (x : ℕ) (l : List ℕ) → Above x l → add_tag x l ≡ x ∷ l
unfolding add_tag
add_first x [] a = refl
add_first x (z ∷ l) a = rw (lt-ltb x z (a z (member_here z z l refl)))

-- a tag below all of the first list stays in front
passes : (y : ℕ) (xs ys : List ℕ) → Above y xs → union xs (y ∷ ys) ≡ y ∷ union xs ys
unfolding union add_tag
passes y [] ys a = refl
passes y (x ∷ xs) ys a =
    let h : y < x = a x (member_here x x xs refl) in
    ap (add_tag x) (passes y xs ys (λ n e. a n (member_there n x xs e))) ∙ rw (le-ltb x y (omega arith), ne_eqb x y (λ e. omega arith))

above_union : (x : ℕ) (xs ys : List ℕ) → Above x xs → Above x ys → Above x (union xs ys)
above_union x xs ys a b n e = or_case (member n xs) (member n ys) (sym (member_union n xs ys) ∙ e) (a n) (b n)

-- the union from this tag on, and the rest of both lists
abbrev pub Walks : List ℕ → List ℕ → Taken → Type 0
Walks xs ys t =
    (union xs ys ≡ t.tag ∷ union (drop t.first xs) (drop t.second ys)) × (t.first ≤ length xs) × (t.second ≤ length ys) ×
    (1 ≤ t.first + t.second)

walks : (xs ys : List ℕ) → Rising xs → Rising ys → 0 < length xs + length ys → Walks xs ys (next_of xs ys)
unfolding union next_of add_tag
walks [] [] r s h = absurd (omega arith)
walks [] (y ∷ ys) r s h = (refl, omega arith, omega arith, omega arith)
walks (x ∷ xs) [] r s h = (add_first x (union xs []) (above_union x xs [] r.0 (above_nil x)), omega arith, omega arith, omega arith)
walks (x ∷ xs) (y ∷ ys) r s h =
    choose (Walks (x ∷ xs) (y ∷ ys)) (ltb x y) _ _
    (λ p.
    let l = ltb-true x y p in
    let all = above_union x xs (y ∷ ys) r.0 (above_cons x y ys l (above_less x y ys l s.0)) in
    (add_first x (union xs (y ∷ ys)) all, omega arith, omega arith, omega arith))
    (λ p.
    choose (Walks (x ∷ xs) (y ∷ ys)) (eqb x y) _ _
    (λ q.
    let e = eqb-true x y q in
    let below : Above y xs = λ n m. let k = r.0 n m in omega arith in
    (ap (add_tag x) (passes y xs ys below) ∙ rw (p, q), omega arith, omega arith, omega arith))
    (λ q.
    let d = eqb-false x y q in
    let g = ltb-false x y p in
    let l : y < x = omega arith in
    (passes y (x ∷ xs) ys (above_cons y x xs l (above_less y x xs l r.0)), omega arith, omega arith, omega arith)))

-- ---- the walk, xs and ys being what is left of both lists

-- the tags so far with this one, and how far the walk then is
abbrev pub Goes : List ℕ → List ℕ → List ℕ → Taken → Type 0
Goes xs ys acc t =
    (acc ++ union xs ys ≡ (acc ++ (t.tag ∷ [])) ++ union (drop t.first xs) (drop t.second ys))
    × (t.first ≤ length xs) × (t.second ≤ length ys) × (1 ≤ t.first + t.second)

pub rising_drop : (i : ℕ) (xs : List ℕ) → Rising xs → Rising (drop i xs)
rising_drop zero xs r = r
rising_drop (suc i) [] r = r
rising_drop (suc i) (x ∷ xs) r = rising_drop i xs r.1

module _ (xs ys acc : List ℕ) (r : Rising xs) (s : Rising ys) (more : 0 < length xs + length ys) where
  pub walk : (t : Taken) → t ≡ next_of xs ys → Goes xs ys acc t
  walk t e =
      let w : Walks xs ys t = rw e (walks xs ys r s more) in
      (rw w.0 (sym (append_snoc acc t.tag (union (drop t.first xs) (drop t.second ys)))), w.1, w.2, w.3)

  pub walk_more : length acc < length (acc ++ union xs ys)
  walk_more =
      let n = length-append acc (union xs ys) in
      let one : 0 < length (union xs ys) = rw (walks xs ys r s more).0 (omega arith) in
      omega arith

pub walk_end : (xs ys acc : List ℕ) → length xs ≡ 0 → length ys ≡ 0 → acc ++ union xs ys ≡ acc
unfolding union
walk_end xs ys acc p q = rw (drop_of_length-le xs {i = 0} (omega arith), drop_of_length-le ys {i = 0} (omega arith)) (append-nil acc)
