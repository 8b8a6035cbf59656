-- The head's places: its size, how many are empty, the steps of filling them, and one more filled. Assumes nothing.
use Rattle.std.specs.Prelude.{if◌then◌else◌, Option, Some, None, not, cond, count_by}
use Rattle.std.proofs.lemmas.List.Sums.{sum_by-cons}
use Prim.Native.Nat.{ℕ, zero, suc, ◌+◌, ◌*◌, ◌-◌, ◌≤◌, ◌<◌}
use native.Mathlib.Nat.{mul-suc, mul-zero}
use native.Mathlib.Omega.{arith}
use mathlib.Core.Path.{◌≡◌, refl, ap, ◌∙◌}
use mathlib.Core.List.{List, [], ◌∷◌}
use mathlib.Core.Bool.{Bool, true, false}
use lib.ListN.{length, get_or, take, replicate}
use lib.Seq.{length-take-le, get_or-take}
use Rattle.spec.specs.declared.Answer.{Answer}
use Rattle.plans.specs.Plan.{Shape, figures, head_size, fill_steps, place_steps, places_steps, empty_places, update_figures}
use Rattle.plan_heads.specs.declared.Head.{Head}
use Rattle.planner.specs.Standing.{pred_of, shape_of, filling_after, filling}
use borrow.Author.Tests.{ne_eqb}
use lib.Dec.{eqb}

-- ---- how many are empty

pub empty_few : (fs : List Bool) → empty_places fs ≤ length fs
unfolding empty_places
empty_few [] = omega arith
empty_few (true ∷ fs) = omega (arith, empty_few fs)
empty_few (false ∷ fs) = omega (arith, empty_few fs)

pub empty_count : (fs : List Bool) → count_by (λ f. not f) fs ≡ empty_places fs
unfolding empty_places
empty_count [] = refl
empty_count (true ∷ fs) = omega (arith, empty_count fs)
empty_count (false ∷ fs) = sum_by-cons (λ f. cond (not f) 1 0) false fs ∙ ap (λ (n : ℕ). 1 + n) (empty_count fs)

-- ---- the steps of every place: three for a filled one

pub places_count : (s : Shape) (fs : List Bool)
    → places_steps s fs ≡ 3 * (length fs - empty_places fs) + fill_steps s * empty_places fs
unfolding places_steps place_steps empty_places
places_count s [] = omega arith
places_count s (true ∷ fs) = omega (arith, places_count s fs, empty_few fs)
places_count s (false ∷ fs) = omega (arith, places_count s fs, empty_few fs, mul-suc (fill_steps s) (empty_places fs))

module _ (h : Head) (ts : List ℕ) (room : length h.filled ≡ 32) (most : h.size ≤ 32) where
  pub size_shape : head_size (shape_of h ts) ≡ h.size
  size_shape = length-take-le h.size h.filled (omega arith)

  pub fill_shape : 0 < h.size → fill_steps (shape_of h ts) ≡ filling h
  unfolding fill_steps
  fill_shape some = rw size_shape (go h.pred)
    where
      go : (p : Option ℕ) → (if eqb h.size (2 * pred_of p) then 7 else 9) ≡ filling_after p h.size
      go None = rw (ne_eqb h.size (2 * 0) (λ e. omega arith))
      go (Some p) = refl

  pub places_shape : (n steps : ℕ) → n ≡ empty_places (take h.size h.filled) → steps ≡ filling h * n
      → 4 + 3 * (h.size - n) + steps ≡ 4 + places_steps (shape_of h ts) (take h.size h.filled)
  places_shape n steps e f =
      let fs = take h.size h.filled in
      let few : n ≤ h.size = omega (arith, e, empty_few fs, size_shape) in
      let same : filling h * n ≡ fill_steps (shape_of h ts) * n = go n few in
      let all : places_steps (shape_of h ts) fs ≡ 3 * (h.size - n) + steps =
      places_count (shape_of h ts) fs ∙ rw (f, same, e, size_shape)
      in
      omega arith
    where
      -- a head of no places has none that is empty
      go : (n : ℕ) → n ≤ h.size → filling h * n ≡ fill_steps (shape_of h ts) * n
      go zero few = omega (arith, mul-zero (filling h), mul-zero (fill_steps (shape_of h ts)))
      go (suc n) few = rw (fill_shape (omega arith))

  -- ---- an insert or a remove at place i

  module _ (i : ℕ) (l : i < h.size) (a : Answer) where
    there : get_or (take h.size h.filled) i false ≡ get_or h.filled i false
    there = get_or-take h.size h.filled i false l

    pub update_filled : get_or h.filled i false ≡ true → figures a 3 0 ≡ update_figures (shape_of h ts) i a
    unfolding update_figures
    update_filled e = rw (there, e)

    pub update_empty : get_or h.filled i false ≡ false → (steps : ℕ) → steps ≡ filling h * 1
        → figures a (3 + steps) 1 ≡ update_figures (shape_of h ts) i a
    unfolding update_figures
    update_empty e steps f =
        let g : steps ≡ fill_steps (shape_of h ts) = omega (arith, fill_shape (omega arith)) in
        rw (there, e, g)

-- ---- a new head's places

pub take_none : (n m : ℕ) → n ≤ m → take n (replicate m false) ≡ replicate n false
take_none zero m h = refl
take_none (suc n) zero h = absurd (omega arith)
take_none (suc n) (suc m) h = ap (λ (l : List Bool). false ∷ l) (take_none n m (omega arith))
