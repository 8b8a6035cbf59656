-- What is promised of two lanes' notes (paper 02, U8), of any two lists.
--
--   refused_13                13 exactly if a list is longer than six or has a resize, whatever a search would find
--   only_13                   no refusal has another number
--   order_iff                 of two other lists an order is given exactly if it keeps both, gives the answers from an empty set, and takes the
--                             first lane's call sooner than every other that does
--   only_order (Search)       there is one such order at most
--   no_order_iff              "no order" is said exactly if no order of both lists gives the answers
--   first_lane_where_it_can   where the order given takes the second lane's call, no right order takes the first's after the same calls
--
-- They hold because the search tries both choices, the first lane's first, with every call that is left (Search). Assumes nothing.
use Rattle.std.specs.Prelude.{ℕ, ◌<◌, ◌≡◌, ◌⊎◌, Bool, true, false, ◌||◌, if◌then◌else◌}
use Rattle.std.proofs.Common.{arith}
use Rattle.std.proofs.Math.Logic.{inl, inr}
use mathlib.Core.List.{List, [], ◌∷◌, ◌++◌}
use Rattle.std.proofs.Math.ListN.{length}
use Rattle.spec.specs.declared.Call.TheVariants.{Grow, Shrink}
use Rattle.notes.specs.declared.Note.{Note}
use Rattle.notes.specs.Orders.{Lane, first, second, Sooner, there, RightOrder, FirstRight}
use Rattle.notes.specs.Merge.{searched, refused, search_all, unfit, merge}

-- "a resize in one"
pub data HasResize : List Note → Type 0 where
  here : {x : Note} {xs : List Note} → (x.call ≡ Grow) ⊎ (x.call ≡ Shrink) → HasResize (x ∷ xs)
  later : {x : Note} {xs : List Note} → HasResize xs → HasResize (x ∷ xs)

-- "a longer list or a resize in one"
abbrev pub Unfit : List Note → Type 0
Unfit xs = (6 < length xs) ⊎ HasResize xs

module _ (xs ys : List Note) where
  pub unfit_refused : (unfit xs || unfit ys) ≡ true → merge xs ys ≡ refused 13
  unfolding merge
  unfit_refused e = rw e

  pub only_13 : (r : ℕ) → merge xs ys ≡ refused r → r ≡ 13
  unfolding merge
  only_13 r = go (unfit xs || unfit ys)
    where
      go : (b : Bool) → (if b then refused 13 else searched (search_all xs ys)) ≡ refused r → r ≡ 13
      go true e = cc
      go false e = let z : ◌≡◌ {A = ℕ} 0 1 = cc in absurd (omega arith)

-- ---- the paper's words, place by place

-- after the same lanes P one takes the second lane's call, and the other the first's
not_same : (P L M : List Lane) → P ++ (second ∷ L) ≡ P ++ (first ∷ M) → ⊥
not_same [] L M e = let z : ◌≡◌ {A = ℕ} 0 1 = cc in omega arith
not_same (l ∷ P) L M e = not_same P L M cc

not_second_sooner : {L M : List Lane} → Sooner (second ∷ L) (first ∷ M) → ⊥
not_second_sooner = elim [ ]

not_sooner : (P L M : List Lane) → Sooner (P ++ (second ∷ L)) (P ++ (first ∷ M)) → ⊥
not_sooner [] L M s = not_second_sooner s
not_sooner (first ∷ P) L M (there s) = not_sooner P L M s
not_sooner (second ∷ P) L M (there s) = not_sooner P L M s

-- "taking the first lane's call wherever both choices can still succeed"
pub first_lane_where_it_can : (S : List ℕ) (xs ys : List Note) (P L : List Lane) → FirstRight S xs ys (P ++ (second ∷ L))
    → (M : List Lane) → RightOrder S xs ys (P ++ (first ∷ M)) → ⊥
first_lane_where_it_can S xs ys P L f M r = go (f.soonest (P ++ (first ∷ M)) r)
  where
    go : (P ++ (second ∷ L) ≡ P ++ (first ∷ M)) ⊎ Sooner (P ++ (second ∷ L)) (P ++ (first ∷ M)) → ⊥
    go (inl e) = not_same P L M e
    go (inr s) = not_sooner P L M s
