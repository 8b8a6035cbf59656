-- What `merge` gives the search, and what it makes of what the search gives. Assumes nothing.
use Prim.Native.Nat.{ℕ, zero, suc, ◌+◌, ◌-◌, ◌≤◌}
use native.Mathlib.Omega.{arith}
use mathlib.Core.Path.{◌≡◌, refl, sym, ap, ◌∙◌}
use mathlib.Core.List.{List, [], ◌∷◌, ◌++◌, map}
use mathlib.Core.Bool.{true, false}
use lib.ListN.{length, set, replicate, replicate-append-replicate}
use Rattle.spec.specs.Lists.{member}
use Rattle.laws.specs.Tests.{or_l, or_r}
use Rattle.std.specs.Prelude.{Option, Some, None, Ok, Err}
use Rattle.notes.specs.declared.Note.{Note}
use Rattle.notes.specs.declared.Lane.{Lane as LaneTaken}
use Rattle.notes.specs.declared.Unfit.TheVariants.{LongerOrResize}
use Rattle.notes.specs.Orders.{Lane}
use Rattle.notes.specs.Merge.{Found, order, none, search, search_all, searched, unfit, merge, lane_of, lanes_of, merged}
use Rattle.notes.proofs.Search.{order_length, sound}
use Rattle.merge.specs.Inside.{toggled}
use Rattle.merge.specs.Trying.{left, Standing, StandsAt, placed, tried}
use Rattle.merge.proofs.Laws.{fit_short}
use Rattle.merge.proofs.SearchLaws.{SearchedAny}

-- ---- the lanes of an order, each at its place

set_after : (k : ℕ) (n : Option LaneTaken) (ws : List (Option LaneTaken)) → set (replicate (suc k) None ++ ws) k n ≡ replicate k None ++ (n ∷ ws)
set_after zero n ws = refl
set_after (suc k) n ws = ap (λ (l : List (Option LaneTaken)). None ∷ l) (set_after k n ws)

placed_at : (k : ℕ) (L : List Lane) → k + length L ≤ 12 → placed k L ≡ replicate k None ++ (map lane_of L ++ replicate (12 - (k + length L)) None)
unfolding placed
placed_at k [] h =
    let e : k + (12 - (k + 0)) ≡ 12 = omega arith in
    sym (replicate-append-replicate k (12 - (k + 0)) None ∙ ap (λ (n : ℕ). replicate n None) e)
placed_at k (l ∷ L) h =
    let e : suc k + length L ≡ k + suc (length L) = omega arith in
    let ws : List (Option LaneTaken) = map lane_of L ++ replicate (12 - (k + suc (length L))) None in
    ap (λ (w : List (Option LaneTaken)). set w k (lane_of l))
    (placed_at (suc k) L (omega arith) ∙ ap (λ (n : ℕ). replicate (suc k) None ++ (map lane_of L ++ replicate (12 - n) None)) e)
    ∙ set_after k (lane_of l) ws

placed_first : (L : List Lane) → length L ≤ 12 → placed 0 L ≡ lanes_of L
unfolding lanes_of
placed_first L h =
    let e : 0 + length L ≡ length L = omega arith in
    placed_at 0 L (omega arith) ∙ ap (λ (n : ℕ). map lane_of L ++ replicate (12 - n) None) e

-- ---- both lists

module _ (xs ys : List Note) where
  pub refused_first : unfit xs ≡ true → Err LongerOrResize ≡ merged (merge xs ys)
  unfolding merge merged
  refused_first e = rw (or_l (unfit xs) (unfit ys) e)

  pub refused_second : unfit ys ≡ true → Err LongerOrResize ≡ merged (merge xs ys)
  unfolding merge merged
  refused_second e = rw (or_r (unfit xs) (unfit ys) e)

  -- no call was taken, and the set is empty
  empty_set : StandsAt xs ys 0 0 []
  unfolding member toggled
  empty_set = record { holds = λ k. refl; rising = tt; few = omega arith }

  module _ (fit_a : unfit xs ≡ false) (fit_b : unfit ys ≡ false) where
    pub begins : Standing xs ys 0 0
    begins = record { short_a = fit_short xs fit_a; short_b = fit_short ys fit_b; in_a = omega arith; in_b = omega arith }

    goes_on : merge xs ys ≡ searched (search_all xs ys)
    unfolding merge
    goes_on = rw (fit_a, fit_b)

    few : (L : List Lane) → search_all xs ys ≡ order L → length L ≤ 12
    unfolding search_all
    few L e =
        let r = sound (length xs + length ys) [] xs ys L refl e in
        let short_a = fit_short xs fit_a in
        let short_b = fit_short ys fit_b in
        omega (arith, order_length r.keeps)

    -- what the search gives is what is said
    pub says : (t : Option (List (Option LaneTaken))) → SearchedAny xs ys 0 0 t → Ok t ≡ merged (merge xs ys)
    unfolding tried merged search_all
    says t t-is =
        let all : left xs ys 0 0 ≡ length xs + length ys = omega arith in
        go (search_all xs ys) refl (t-is [] empty_set ∙ ap (λ (n : ℕ). tried 0 (search n [] xs ys)) all) ∙ ap merged (sym goes_on)
      where
        go : (f : Found) → search_all xs ys ≡ f → t ≡ tried 0 f → Ok t ≡ merged (searched f)
        go (order L) e q = ap (λ (u : Option (List (Option LaneTaken))). Ok u) (q ∙ ap (λ (w : List (Option LaneTaken)). Some w) (placed_first L (few L e)))
        go none e q = ap (λ (u : Option (List (Option LaneTaken))). Ok u) q
