-- What the search tries and finds, call by call, in the words of the definition. Assumes nothing.
use Prim.Native.Nat.{ℕ, suc, ◌+◌, ◌-◌, ◌≤◌, ◌<◌}
use native.Mathlib.Numerals.{add-one}
use native.Mathlib.Omega.{arith}
use mathlib.Core.Path.{◌≡◌, refl, sym, ap, ◌∙◌}
use mathlib.Core.Logic.{◌⊎◌, inl, inr}
use mathlib.Core.List.{List, [], ◌∷◌}
use mathlib.Core.Bool.{Bool, true, false}
use borrow.Author.Tests.{eqb-true}
use lib.Dec.{eqb}
use lib.ListN.{length, get_or, set, take, drop, replicate, drop_of_length-le}
use lib.Seq.{drop-cons, length-take-le}
use Rattle.spec.specs.declared.Answer.TheVariants.{No}
use Rattle.spec.specs.declared.Call.TheVariants.{Contains}
use Rattle.spec.specs.Lists.{member}
use Rattle.spec.specs.Numbers.{answer_number}
use Rattle.laws.specs.PlainSet.{plain_rising}
use Rattle.notes.specs.declared.Note.{Note}
use Rattle.notes.specs.Orders.{note, Lane, first, second, asked}
use Rattle.notes.specs.Merge.{Found, order, none, preceded, or_else, either, gives, Search, take_call, choice, search, lane_of}
use Rattle.notes.specs.declared.Lane.{Lane as LaneTaken}
use Rattle.notes.specs.declared.Lane.TheVariants.{First, Second}
use Rattle.merge.specs.Inside.{said, turns, differ, inside, Stands}
use Rattle.merge.specs.Trying.{left, head_given, RightNext, Standing, StandsAt, placed, tried}
use Rattle.merge.proofs.SetLaws.{answers, grows, members}
use Rattle.merge.proofs.Laws.{first_inside, second_inside}
use Rattle.std.specs.Prelude.{Option, Some, None}

-- ---- one choice

-- no call is left, or the set gives another answer
pub none_first : (on : Search) (S : List ℕ) (xs ys : List Note) → head_given S xs ≡ false → choice first on S xs ys ≡ none
unfolding choice head_given take_call
none_first on S [] ys e = refl
none_first on S (x ∷ xs) ys e = rw e

pub none_second : (on : Search) (S : List ℕ) (xs ys : List Note) → head_given S ys ≡ false → choice second on S xs ys ≡ none
unfolding choice head_given take_call
none_second on S xs [] e = refl
none_second on S xs (y ∷ ys) e = rw e

found_order : (k : ℕ) (f : Found) (w : List (Option LaneTaken)) → tried k f ≡ Some w → (g : Found) → or_else f g ≡ f
unfolding tried or_else
found_order k (order L) w e g = refl
found_order k none w e g = let z : ◌≡◌ {A = ℕ} 0 1 = cc in absurd (omega arith)

found_none : (k : ℕ) (f : Found) → tried k f ≡ None → f ≡ none
unfolding tried
found_none k (order L) e = let z : ◌≡◌ {A = ℕ} 0 1 = cc in absurd (omega arith)
found_none k none e = refl

or_none : (f g : Found) → f ≡ none → or_else f g ≡ g
unfolding or_else
or_none f g e = rw e

none_preceded : (l : Lane) (f : Found) → f ≡ none → preceded l f ≡ none
unfolding preceded
none_preceded l f e = rw e

-- a lane before what was found
lane_before : (l : Lane) (k j : ℕ) (f : Found) (w : List (Option LaneTaken)) → j ≡ suc k → tried j f ≡ Some w
    → tried k (preceded l f) ≡ Some (set w k (lane_of l))
unfolding tried placed preceded
lane_before l k j (order L) w e q = let found : tried (suc k) (order L) ≡ Some w = rw (← e) q in let same : placed (suc k) L ≡ w = cc in rw same
lane_before l k j none w e q = let z : ◌≡◌ {A = ℕ} 0 1 = cc in absurd (omega arith)

-- ---- a list's next call, in a set that the calls so far may have left

module _ (S : List ℕ) where
  module _ (xs ys : List Note) (st : Stands xs ys S) (xs_few : length xs ≤ 6) (ys_few : length ys ≤ 6) where
    few : length S < 64
    few = let f = st.few in omega arith

    -- the answer's number
    gives_said : (x : Note) → gives S x ≡ eqb (answer_number (said x.call (inside xs ys x.tag))) (answer_number x.answer)
    unfolding gives
    gives_said x = rw (answers S x.tag x.call few, st.holds x.tag)

    -- after a call that the set answers so
    module _ (x : Note) (given : gives S x ≡ true) where
      number_said : answer_number x.answer ≡ answer_number (said x.call (member x.tag S))
      unfolding gives
      number_said = sym (eqb-true _ _ given) ∙ ap answer_number (answers S x.tag x.call few)

      after : (k : ℕ) → member k (asked S x).tags ≡ differ (turns k x) (inside xs ys k)
      unfolding turns
      after k =
          members S x.tag k x.call st.rising few
          ∙ rw (← number_said, st.holds k)

  pub past : (l : List Note) (k : ℕ) → length l ≤ k → false ≡ head_given S (drop k l)
  unfolding head_given
  past l k h = rw (drop_of_length-le l {i = k} h)

  pub within : (l : List Note) (k : ℕ) (x : Note) → drop k l ≡ x ∷ drop (suc k) l → (xs ys : List Note) → Stands xs ys S → length xs ≤ 6 → length ys ≤ 6
      → eqb (answer_number (said x.call (inside xs ys x.tag))) (answer_number x.answer) ≡ head_given S (drop k l)
  unfolding head_given
  within l k x e xs ys st m n = rw e (sym (gives_said xs ys st m n x))

-- ---- the search by its two choices

-- what a search is given, and a set that the calls so far may have left
pub record Given : Type 0 where
  pub a : List Note
  pub b : List Note
  pub i : ℕ
  pub j : ℕ
  pub at : Standing a b i j
  pub S : List ℕ
  pub stands : StandsAt a b i j S

-- what the search of all that is left gives, from that set on
abbrev pub Searched : List Note → List Note → ℕ → ℕ → List ℕ → Option (List (Option LaneTaken)) → Type 0
Searched a b i j S r = r ≡ tried (i + j) (search (left a b i j) S (drop i a) (drop j b))

-- from any set that the calls so far may have left
abbrev pub SearchedAny : List Note → List Note → ℕ → ℕ → Option (List (Option LaneTaken)) → Type 0
SearchedAny a b i j r = (S : List ℕ) → StandsAt a b i j S → Searched a b i j S r

module _ (g : Given) where
  open g use {a, b, i, j, at, S, stands}

  abbrev n : ℕ
  n = left a b i j - 1

  abbrev chosen : Lane → Found
  chosen l = choice l (search n) S (drop i a) (drop j b)

  i_few : length (take i a) ≤ 6
  i_few = let h = at.in_a in let s = at.short_a in omega (arith, length-take-le i a h)

  j_few : length (take j b) ≤ 6
  j_few = let h = at.in_b in let s = at.short_b in omega (arith, length-take-le j b h)

  -- the lane's next call is taken: p calls of a and q of b then
  record Next (l : Lane) (p q : ℕ) : Type 0 where
    T : List ℕ
    leaves : StandsAt a b p q T
    is : chosen l ≡ preceded l (search (left a b p q) T (drop p a) (drop q b))

  any_note : Note
  any_note = note Contains 0 No

  first_next : i < length a → head_given S (drop i a) ≡ true → Next first (i + 1) j
  unfolding head_given choice take_call
  first_next h y =
      let short = at.short_a in
      let x = get_or a i any_note in
      let e : drop i a ≡ x ∷ drop (i + 1) a = rw (add-one i) (drop-cons a i any_note h) in
      let given : gives S x ≡ true = rw e at y in
      let m : left a b (i + 1) j ≡ n = omega arith in
      record {
        T = (asked S x).tags;
        leaves =
            record {
              holds = λ k. after S (take i a) (take j b) stands i_few j_few x given k ∙ sym (first_inside k a b i j any_note h);
              rising = plain_rising S x.call x.tag stands.rising;
              few =
                  let f = stands.few in
                  let w = grows S x.tag x.call (few S (take i a) (take j b) stands i_few j_few) in
                  omega (arith, length-take-le i a (omega arith), length-take-le (i + 1) a (omega arith));
            };
        is = rw (e, given, m);
      }

  second_next : j < length b → head_given S (drop j b) ≡ true → Next second i (j + 1)
  unfolding head_given choice take_call
  second_next h y =
      let short = at.short_b in
      let x = get_or b j any_note in
      let e : drop j b ≡ x ∷ drop (j + 1) b = rw (add-one j) (drop-cons b j any_note h) in
      let given : gives S x ≡ true = rw e at y in
      let m : left a b i (j + 1) ≡ n = omega arith in
      record {
        T = (asked S x).tags;
        leaves =
            record {
              holds = λ k. after S (take i a) (take j b) stands i_few j_few x given k ∙ sym (second_inside k a b i j any_note h);
              rising = plain_rising S x.call x.tag stands.rising;
              few =
                  let f = stands.few in
                  let w = grows S x.tag x.call (few S (take i a) (take j b) stands i_few j_few) in
                  omega (arith, length-take-le j b (omega arith), length-take-le (j + 1) b (omega arith));
            };
        is = rw (e, given, m);
      }

  -- ---- what is found

  pub all_taken : length a + length b ≤ i + j → Searched a b i j S (Some (replicate 12 None))
  unfolding search tried placed
  all_taken h =
      let f = at.in_a in
      let e = at.in_b in
      let z : left a b i j ≡ 0 = omega arith in
      rw z

  module _ (some : i + j < length a + length b) where
    both : search (left a b i j) S (drop i a) (drop j b) ≡ or_else (chosen first) (chosen second)
    unfolding search either
    both = let z : left a b i j ≡ suc n = omega arith in ap (λ (k : ℕ). search k S (drop i a) (drop j b)) z

    -- the first lane's call is given, and what is left can succeed
    pub by_first : (y : Bool) → RightNext a i (take i a) (take j b) y → y ≡ true → (t : Option (List (Option LaneTaken))) → SearchedAny a b (i + 1) j t
        → (w : List (Option LaneTaken)) → t ≡ Some w → Searched a b i j S (Some (set w (i + j) (Some First)))
    by_first y right e t t-is w found =
        let c = first_next (right.has e) (sym (right.given S stands) ∙ e) in
        let f = search (left a b (i + 1) j) c.T (drop (i + 1) a) (drop j b) in
        let p : i + 1 + j ≡ suc (i + j) = omega arith in
        let same : tried (i + 1 + j) f ≡ Some w = sym (t-is c.T c.leaves) ∙ found in
        let lane = lane_before first (i + j) (i + 1 + j) f w p same in
        sym lane ∙ ap (tried (i + j)) (sym (both ∙ rw c.is (found_order (i + j) (preceded first f) _ lane (chosen second))))

    -- it is not given, or what is left cannot succeed
    abbrev pub Fails : Bool → Type 0
    Fails y = (y ≡ false) ⊎ ((y ≡ true) × (t : Option (List (Option LaneTaken))) × SearchedAny a b (i + 1) j t × (t ≡ None))

    fails : (y : Bool) → RightNext a i (take i a) (take j b) y → Fails y → chosen first ≡ none
    fails y right (inl e) = none_first (search n) S (drop i a) (drop j b) (sym (right.given S stands) ∙ e)
    fails y right (inr q) =
        let c = first_next (right.has q.0) (sym (right.given S stands) ∙ q.0) in
        let t-is = q.2 c.T c.leaves in
        c.is ∙ none_preceded first _ (found_none _ _ (sym t-is ∙ q.3))

    module _ (y z : Bool) (first-right : RightNext a i (take i a) (take j b) y) (never : Fails y) (right : RightNext b j (take i a) (take j b) z) where
      to_second : search (left a b i j) S (drop i a) (drop j b) ≡ chosen second
      to_second = both ∙ or_none (chosen first) (chosen second) (fails y first-right never)

      pub by_second : z ≡ true → (t : Option (List (Option LaneTaken))) → SearchedAny a b i (j + 1) t
          → (w : List (Option LaneTaken)) → t ≡ Some w → Searched a b i j S (Some (set w (i + j) (Some Second)))
      by_second e t t-is w found =
          let c = second_next (right.has e) (sym (right.given S stands) ∙ e) in
          let f = search (left a b i (j + 1)) c.T (drop i a) (drop (j + 1) b) in
          let p : i + (j + 1) ≡ suc (i + j) = omega arith in
          let same : tried (i + (j + 1)) f ≡ Some w = sym (t-is c.T c.leaves) ∙ found in
          sym (lane_before second (i + j) (i + (j + 1)) f w p same) ∙ ap (tried (i + j)) (sym (to_second ∙ c.is))

      -- the second lane's call is not given, or what is left cannot succeed
      pub by_neither : (z ≡ false) ⊎ ((z ≡ true) × (t : Option (List (Option LaneTaken))) × SearchedAny a b i (j + 1) t × (t ≡ None))
          → Searched a b i j S None
      unfolding tried
      by_neither (inl e) = ap (tried (i + j)) (sym (to_second ∙ none_second (search n) S (drop i a) (drop j b) (sym (right.given S stands) ∙ e)))
      by_neither (inr q) =
          let c = second_next (right.has q.0) (sym (right.given S stands) ∙ q.0) in
          let t-is = q.2 c.T c.leaves in
          ap (tried (i + j)) (sym (to_second ∙ c.is ∙ none_preceded second _ (found_none _ _ (sym t-is ∙ q.3))))
