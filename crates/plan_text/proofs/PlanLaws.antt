-- What is printed for a plan that was made, by its refusal: its number, or the sizes and the first figures, as many as there are calls.
-- Assumes nothing.
use Rattle.std.specs.Prelude.{if◌then◌else◌, Ok, Err}
use Prim.Native.Nat.{ℕ, ◌<◌, ◌≤◌}
use native.Mathlib.Omega.{arith}
use mathlib.Core.Path.{◌≡◌, refl, sym, ap, ◌∙◌}
use mathlib.Core.Logic.{◌⊎◌, inl, inr}
use mathlib.Core.List.{List, ◌++◌}
use mathlib.Core.Bool.{Bool, true, false, not}
use borrow.Author.Tests.{lt-leb, le-leb, le-ltb, ltb-false}
use lib.Dec.{ltb}
use lib.ListN.{length, take}
use lib.Seq.{length-take-le, take_at}
use Rattle.spec.specs.Sound.{version_known}
use Rattle.session.specs.Print.{refusal_line}
use Rattle.laws.specs.Tests.{bool?}
use Rattle.plans.specs.declared.Planned.{Planned}
use Rattle.plans.specs.declared.Calls.{Calls}
use Rattle.plans.specs.declared.Figures.{Figures}
use Rattle.plans.specs.declared.Refusal.{Refusal}
use Rattle.plans.specs.Plan.{fresh, all_figures, PlanReply, planned, refused, opened_for, plan, list_of, refusal_number, refusal_of, figures_array, plan_array}
use Rattle.planner.proofs.Stored.{figures_length}
use Rattle.plan_text.specs.Text.{figures_lines, size_lines, reply_lines, plan_lines}

-- a list is refused with a refusal's number, or has at most 64 calls and figures for each
data Outcome (cs : List Planned) : PlanReply → Type 0 where
  refuses : (r : ℕ) → refusal_number (refusal_of r) ≡ r → Outcome cs (refused r)
  plans : (fs : List Figures) → length cs ≤ 64 → length fs ≡ length cs → Outcome cs (planned fs)

outcome : (version : ℕ) (cs : List Planned) → Outcome cs (plan version cs)
unfolding plan
outcome version cs = go (version_known (opened_for 1 version)) (ltb 64 (length cs)) refl
  where
    fs : List Figures
    fs = all_figures (opened_for 1 version) fresh cs

    go : (v l : Bool) → ltb 64 (length cs) ≡ l → Outcome cs (if not v then refused 11 else if l then refused 9 else planned fs)
    go false l e = refuses 11 refl
    go true true e = refuses 9 refl
    go true false e = plans fs (ltb-false 64 (length cs) e) (figures_length (opened_for 1 version) fresh cs)

-- ---- T

module _ (t version : ℕ) (cs : List Planned) where
  pub tasks_none : t < 1 → plan_lines t version cs ≡ refusal_line 1
  unfolding plan_lines
  tasks_none h = rw (lt-leb 1 t h)

  pub tasks_many : 1 ≤ t → 8 < t → plan_lines t version cs ≡ refusal_line 1
  unfolding plan_lines
  tasks_many h k = rw (le-leb 1 t h, lt-leb t 8 k)

  tasks_right : 1 ≤ t → t ≤ 8 → plan_lines t version cs ≡ reply_lines t (plan version cs)
  unfolding plan_lines
  tasks_right h k = rw (le-leb 1 t h, le-leb t 8 k)

-- ---- the plan that was made

short_list : (l : Calls) → length (list_of l) ≤ 64 → l.count ≤ 64
unfolding list_of
short_list l h = go (bool? (ltb 64 l.count))
  where
    go : (ltb 64 l.count ≡ true) ⊎ (ltb 64 l.count ≡ false) → l.count ≤ 64
    go (inl e) = absurd (omega (arith, rw e at h))
    go (inr e) = ltb-false 64 l.count e

list_length : (l : Calls) → length l.call ≡ 64 → l.count ≤ 64 → length (list_of l) ≡ l.count
unfolding list_of
list_length l room h = rw (le-ltb 64 l.count h) (length-take-le l.count l.call (omega arith))

module _ (t version : ℕ) (l : Calls) (low : 1 ≤ t) (high : t ≤ 8) where
  pub refusal_printed : (r : Refusal) → Err r ≡ plan_array (plan version (list_of l)) → plan_lines t version (list_of l) ≡ refusal_line (refusal_number r)
  unfolding reply_lines plan_array
  refusal_printed r made = tasks_right t version (list_of l) low high ∙ go (outcome version (list_of l)) made
    where
      go : {o : PlanReply} → Outcome (list_of l) o → Err r ≡ plan_array o → reply_lines t o ≡ refusal_line (refusal_number r)
      go (refuses n h) q = let same : r ≡ refusal_of n = cc in rw (same, h)
      go (plans fs h k) q = let z : ◌≡◌ {A = ℕ} 0 1 = cc in absurd (omega arith)

  module _ (gs : List Figures) (made : Ok gs ≡ plan_array (plan version (list_of l))) where
    pub few_calls : l.count ≤ 64
    unfolding plan_array
    few_calls = short_list l (go (outcome version (list_of l)) made)
      where
        go : {o : PlanReply} → Outcome (list_of l) o → Ok gs ≡ plan_array o → length (list_of l) ≤ 64
        go (refuses r h) q = let z : ◌≡◌ {A = ℕ} 0 1 = cc in absurd (omega arith)
        go (plans fs h k) q = h

    pub figures_printed : length l.call ≡ 64 → plan_lines t version (list_of l) ≡ size_lines t ++ figures_lines (take l.count gs)
    unfolding reply_lines plan_array figures_array
    figures_printed room = tasks_right t version (list_of l) low high ∙ go (outcome version (list_of l)) made
      where
        go : {o : PlanReply} → Outcome (list_of l) o → Ok gs ≡ plan_array o → reply_lines t o ≡ size_lines t ++ figures_lines (take l.count gs)
        go (refuses r h) q = let z : ◌≡◌ {A = ℕ} 0 1 = cc in absurd (omega arith)
        go (plans fs h k) q =
            let n : length fs ≡ l.count = k ∙ list_length l room (short_list l h) in
            let same : gs ≡ figures_array fs = cc in
            rw same (ap (λ (us : List Figures). size_lines t ++ figures_lines us) (sym (take_at fs _ l.count n)))
