-- The figures of calls stored one after the other, a call at a time, and when a list is refused. Assumes nothing.
use Prim.Native.Nat.{ℕ, zero, suc, ◌+◌, ◌-◌, ◌≤◌, ◌<◌}
use native.Mathlib.Numerals.{add-one}
use native.Mathlib.Nat.{zero-add}
use native.Mathlib.Omega.{arith}
use mathlib.Core.Path.{◌≡◌, refl, ap, ◌∙◌}
use mathlib.Core.List.{List, [], ◌∷◌, ◌++◌}
use borrow.Author.Tests.{lt-ltb, le-ltb, lt-leb, le-leb}
use lib.ListN.{length, get_or, set, take, drop, replicate, drop_of_length-le}
use lib.Seq.{sets, sets-eq, drop-cons, length-take-le}
use Rattle.spec.specs.declared.Config.{Config}
use Rattle.spec.specs.declared.Answer.TheVariants.{No}
use Rattle.plans.specs.declared.Planned.{Planned}
use Rattle.plans.specs.declared.Calls.{Calls}
use Rattle.plans.specs.declared.Figures.{Figures}
use Rattle.plans.specs.Plan.{Shape, figures, fresh, call_figures, after_call, all_figures, opened_for, planned, refused, plan, list_of, figures_array}

pub figures_length : (g : Config) (s : Shape) (cs : List Planned) → length (all_figures g s cs) ≡ length cs
unfolding all_figures
figures_length g s [] = refl
figures_length g s (c ∷ cs) = ap suc (figures_length g (after_call g s c.call c.tag) cs)

drop_none : {A : Type 0} (a : A) (n k : ℕ) → drop n (replicate k a) ≡ replicate (k - n) a
drop_none a zero k = let e : k - 0 ≡ k = omega arith in rw e
drop_none a (suc n) zero = let e : 0 - suc n ≡ 0 = omega arith in rw e
drop_none a (suc n) (suc k) = let e : suc k - suc n ≡ k - n = omega arith in rw e (drop_none a n k)

module _ (g : Config) (cs : List Planned) where
  -- all of them
  pub stored_all : length cs ≤ 64 → (s : Shape) → sets (figures_array []) 0 (all_figures g s cs) ≡ figures_array (all_figures g s cs)
  unfolding figures_array
  stored_all h s =
      let fs = all_figures g s cs in
      let l : length fs ≡ length cs = figures_length g s cs in
      sets-eq fs (replicate 64 (figures No 0 0)) 0 (omega arith)
      ∙ ap (λ (r : List Figures). fs ++ r) (drop_none (figures No 0 0) (0 + length fs) 64 ∙ rw (zero-add (length fs)))

  module _ (i : ℕ) (s : Shape) (out : List Figures) where
    -- one more
    pub stored_next : (d : Planned) → i < length cs → (f : Figures) (t : Shape)
        → f ≡ call_figures g s (get_or cs i d).call (get_or cs i d).tag → t ≡ after_call g s (get_or cs i d).call (get_or cs i d).tag
        → sets (set out i f) (i + 1) (all_figures g t (drop (i + 1) cs)) ≡ sets out i (all_figures g s (drop i cs))
    unfolding all_figures
    stored_next d l f t p q = rw (drop-cons cs i d l, p, q, add-one i)

    -- none is left
    pub stored_end : length cs ≤ i → sets out i (all_figures g s (drop i cs)) ≡ out
    unfolding all_figures
    stored_end l = rw (drop_of_length-le cs l)

-- ---- a list that is refused, and one that is not

module _ (version : ℕ) (l : Calls) where
  pub refused_low : version < 1 → plan version (list_of l) ≡ refused 11
  unfolding plan
  refused_low h = rw (lt-leb 1 version h)

  pub refused_high : 1 ≤ version → 2 < version → plan version (list_of l) ≡ refused 11
  unfolding plan
  refused_high h k = rw (le-leb 1 version h, lt-leb version 2 k)

  module _ (low : 1 ≤ version) (high : version ≤ 2) where
    pub refused_long : 64 < l.count → plan version (list_of l) ≡ refused 9
    unfolding plan list_of
    refused_long h = rw (le-leb 1 version low, le-leb version 2 high, lt-ltb 64 l.count h)

    pub plan_figures : length l.call ≡ 64 → l.count ≤ 64
        → plan version (list_of l) ≡ planned (all_figures (opened_for 1 version) fresh (take l.count l.call))
    unfolding plan list_of
    plan_figures e h =
        let n : length (take l.count l.call) ≡ l.count = length-take-le l.count l.call (omega arith) in
        rw (le-leb 1 version low, le-leb version 2 high, le-ltb 64 l.count h, n, le-ltb 64 l.count h)
