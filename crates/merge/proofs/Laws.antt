-- The calls of a list, whether a resize is among them, and whether a tag is inside after one call more. Assumes nothing.
use Prim.Native.Nat.{ℕ, ◌+◌, ◌≤◌, ◌<◌}
use native.Mathlib.Numerals.{add-one}
use native.Mathlib.Omega.{arith}
use mathlib.Core.Path.{◌≡◌, refl, sym, ap, ◌∙◌}
use mathlib.Core.List.{List, [], ◌∷◌, ◌++◌}
use mathlib.Core.Bool.{Bool, true, false, not}
use borrow.Author.Tests.{lt-ltb, le-ltb, ltb-false}
use lib.Dec.{ltb}
use Rattle.laws.specs.Tests.{or_none}
use lib.ListN.{length, get_or, take}
use lib.Seq.{take-suc, length-take-le}
use Rattle.std.specs.List.{list_all}
use Rattle.spec.specs.declared.Call.{Call}
use Rattle.spec.specs.declared.Call.TheVariants.{Insert, Remove, Contains, Grow, Shrink}
use Rattle.spec.specs.Lists.{every}
use Rattle.spec.specs.History.{set_call}
use Rattle.notes.specs.declared.Note.{Note}
use Rattle.notes.specs.declared.Notes.{Notes}
use Rattle.notes.specs.Merge.{unfit, list_of}
use Rattle.merge.specs.Inside.{of_set, turns, differ, toggled, inside}

abbrev pub all_of_set : List Note → Bool
all_of_set = every (λ (x : Note). set_call x.call)

set_same : (c : Call) → of_set c ≡ set_call c
unfolding set_call
set_same Insert = refl
set_same Remove = refl
set_same Contains = refl
set_same Grow = refl
set_same Shrink = refl

all_same : (xs : List Note) → list_all (λ (x : Note). of_set x.call) xs ≡ all_of_set xs
unfolding every
all_same [] = refl
all_same (x ∷ xs) = rw (set_same x.call, all_same xs)

-- ---- a list that is not too long

pub list_short : (l : Notes) → l.count ≤ 6 → list_of l ≡ take l.count l.note
unfolding list_of
list_short l h = rw (le-ltb _ _ h)

pub list_long : (l : Notes) → 6 < l.count → unfit (list_of l) ≡ true
unfolding list_of unfit
list_long l h = rw (lt-ltb _ _ h)

pub unfit_short : (l : Notes) → l.count ≤ 6 → length l.note ≡ 6 → (r : Bool) → r ≡ list_all (λ (x : Note). of_set x.call) (take l.count l.note)
    → unfit (list_of l) ≡ not r
unfolding unfit
unfit_short l h len r e =
    let few : length (take l.count l.note) ≤ 6 = omega (arith, length-take-le l.count l.note (omega arith)) in
    rw (list_short l h, e, all_same (take l.count l.note), le-ltb _ _ few)

pub fit_short : (xs : List Note) → unfit xs ≡ false → length xs ≤ 6
unfolding unfit
fit_short xs e = ltb-false 6 (length xs) (or_none (ltb 6 (length xs)) (not (all_of_set xs)) e).0

-- ---- a tag after one call more

differ_swap : (a b c : Bool) → differ a (differ b c) ≡ differ b (differ a c)
differ_swap true true c = refl
differ_swap true false c = refl
differ_swap false true c = refl
differ_swap false false c = refl

module _ (k : ℕ) where
  pub toggled_last : (r : Bool) (xs : List Note) (x : Note) → toggled k r (xs ++ (x ∷ [])) ≡ differ (turns k x) (toggled k r xs)
  unfolding toggled
  toggled_last r [] x = refl
  toggled_last r (y ∷ xs) x = toggled_last (differ (turns k y) r) xs x

  toggled_before : (t r : Bool) (xs : List Note) → toggled k (differ t r) xs ≡ differ t (toggled k r xs)
  unfolding toggled
  toggled_before t r [] = refl
  toggled_before t r (x ∷ xs) =
      ap (λ (b : Bool). toggled k b xs) (differ_swap (turns k x) t r) ∙ toggled_before t (differ (turns k x) r) xs

  -- the first i + 1 of a list
  toggled_next : (r : Bool) (xs : List Note) (i : ℕ) (d : Note) → i < length xs
      → toggled k r (take (i + 1) xs) ≡ differ (turns k (get_or xs i d)) (toggled k r (take i xs))
  toggled_next r xs i d h =
      ap (λ (n : ℕ). toggled k r (take n xs)) (add-one i) ∙ ap (toggled k r) (take-suc xs i d h) ∙ toggled_last r (take i xs) (get_or xs i d)

  pub toggled_on : (before : Bool) (xs : List Note) (i : ℕ) (d : Note) → i < length xs → (t : Bool) → t ≡ turns k (get_or xs i d)
      → (r : Bool) → r ≡ toggled k before (take i xs) → (q : Bool) → q ≡ differ t r → q ≡ toggled k before (take (i + 1) xs)
  toggled_on before xs i d h t e r f q g = g ∙ rw (e, f) (sym (toggled_next before xs i d h))

  module _ (a b : List Note) (i j : ℕ) (d : Note) where
    pub first_inside : i < length a → inside (take (i + 1) a) (take j b) k ≡ differ (turns k (get_or a i d)) (inside (take i a) (take j b) k)
    first_inside h =
        ap (λ (r : Bool). toggled k r (take j b)) (toggled_next false a i d h)
        ∙ toggled_before (turns k (get_or a i d)) (toggled k false (take i a)) (take j b)

    pub second_inside : j < length b → inside (take i a) (take (j + 1) b) k ≡ differ (turns k (get_or b j d)) (inside (take i a) (take j b) k)
    second_inside h = toggled_next (toggled k false (take i a)) b j d h
