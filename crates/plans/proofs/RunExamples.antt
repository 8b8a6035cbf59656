-- Examples for "Its figures equal those of the run.": runs that a plan does not fit, and what the promise says of tags whose places differ between
-- the versions. Assumes nothing.
use Rattle.std.specs.Prelude.{ℕ, ◌≡◌, List, [], ◌∷◌, map, length}
use Rattle.std.proofs.Common.{sym, ap, ◌∙◌, arith}
use Rattle.spec.specs.declared.Answer.TheVariants.{Yes, No, Done}
use Rattle.spec.specs.declared.Call.TheVariants.{Insert, Grow}
use Rattle.spec.specs.Schedule.{schedule}
use Rattle.plans.specs.declared.Figures.{Figures}
use Rattle.plans.specs.Plan.{call_of, figures, opened_for}
use Rattle.plans.specs.Run.{calls_alone, figures_run, PlanIsRun}
use Rattle.plans.specs.RunExamples.{insert_and_grow, calls_apart, apart}

-- so a run that gives other figures is none: another answer, another number of own steps, of buckets, a call more or less
one_for_one : (ns bs : List ℕ) (fs : List Figures)
    → figures_run 0 (schedule (opened_for 2 1) ns bs (calls_alone 1 (call_of Insert 5 ∷ call_of Grow 0 ∷ []))).outs ≡ fs
    → ¬ (figures Yes 3 0 ∷ figures Done 7 0 ∷ [] ≡ fs) → ¬ PlanIsRun 2 1 ns bs 1 (call_of Insert 5 ∷ call_of Grow 0 ∷ [])
one_for_one ns bs fs e other p = other (sym (insert_and_grow ns bs p) ∙ e)

-- the run gives these
abbrev pub Gives : List ℕ → List ℕ → List Figures → Type 0
Gives ns bs fs = figures_run 0 (schedule (opened_for 2 1) ns bs (calls_alone 1 (call_of Insert 5 ∷ call_of Grow 0 ∷ []))).outs ≡ fs

abbrev pub NotAsPlanned : List Figures → Type 0
NotAsPlanned fs = (ns bs : List ℕ) → Gives ns bs fs → ¬ PlanIsRun 2 1 ns bs 1 (call_of Insert 5 ∷ call_of Grow 0 ∷ [])

pub other_figures :
    NotAsPlanned (figures No 3 0 ∷ figures Done 7 0 ∷ []) × NotAsPlanned (figures Yes 3 0 ∷ figures Done 8 0 ∷ [])
    × NotAsPlanned (figures Yes 3 1 ∷ figures Done 7 0 ∷ []) × NotAsPlanned (figures Yes 3 0 ∷ [])
    × NotAsPlanned (figures Yes 3 0 ∷ figures Done 7 0 ∷ figures Done 7 0 ∷ [])
other_figures = (
  λ ns bs e. one_for_one ns bs _ e (λ q. (let d = ap (map (λ (f : Figures). f.answer)) q in let z : ◌≡◌ {A = ℕ} 0 1 = cc in omega arith)),
  λ ns bs e. one_for_one ns bs _ e (λ q. (let d = ap (map (λ (f : Figures). f.own)) q in let z : ◌≡◌ {A = ℕ} 7 8 = cc in omega arith)),
  λ ns bs e. one_for_one ns bs _ e (λ q. (let d = ap (map (λ (f : Figures). f.buckets)) q in let z : ◌≡◌ {A = ℕ} 0 1 = cc in omega arith)),
  λ ns bs e. one_for_one ns bs _ e (λ q. (let d = ap length q in omega arith)),
  λ ns bs e. one_for_one ns bs _ e (λ q. (let d = ap length q in omega arith)),
)

-- a reading, what the promise says of one task and version 2
pub apart_run : (ns bs : List ℕ) → PlanIsRun 1 2 ns bs 0 calls_apart
    → figures_run 0 (schedule (opened_for 1 2) ns bs (calls_alone 0 calls_apart)).outs
    ≡ figures Done 7 0 ∷ figures Yes 10 1 ∷ figures No 3 0 ∷ figures No 5 0 ∷ figures Yes 3 0 ∷ []
apart_run ns bs p = p _ apart.1
