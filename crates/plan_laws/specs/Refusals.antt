-- The planner's refusals (paper 02, U11: "a longer list gives 9, and before it another version 11"), each exactly under its condition: `refused_11`,
-- `refused_9`, and no other: `only_9_and_11`. Assumes nothing.
use Rattle.std.specs.Prelude.{ℕ, ◌≤◌, ◌<◌, refl, ◌↔◌, List, Bool, true, false, not, leb, ltb, if◌then◌else◌}
use Rattle.std.proofs.Math.Path.{◌≡◌, ap}
use Rattle.std.proofs.Common.{arith}
use borrow.Author.Tests.{le-leb, lt-ltb, ltb-true, not-true, not-false}
use Rattle.std.proofs.Math.ListN.{length}
use Rattle.spec.specs.Sound.{within}
use Rattle.laws.specs.Tests.{tf, and_i, choose}
use Rattle.laws.specs.Soundness.{within_facts}
use Rattle.plans.specs.declared.Planned.{Planned}
use Rattle.plans.specs.Plan.{PlanReply, planned, refused, all_figures, opened_for, fresh, plan, refusal_number, refusal_of}

abbrev pub VersionRight : ℕ → Type 0
VersionRight version = (1 ≤ version) × (version ≤ 2)

module _ (version : ℕ) (cs : List Planned) where
  -- a plan by its outcome
  pub data PlanOf : PlanReply → Type 0 where
    other_version : ¬ VersionRight version → PlanOf (refused 11)
    longer_list : VersionRight version → 64 < length cs → PlanOf (refused 9)
    figured : PlanOf (planned (all_figures (opened_for 1 version) fresh cs))

  right : VersionRight version → within 1 2 version ≡ true
  right v = and_i (leb 1 version) (leb version 2) (le-leb 1 version v.0) (le-leb version 2 v.1)

  pub plan_outcome : PlanOf (plan version cs)
  unfolding plan
  plan_outcome =
      choose PlanOf (not (within 1 2 version)) _ _ (λ w. other_version (λ v. tf (right v) (not-true _ w)))
      (λ w. choose PlanOf (ltb 64 (length cs)) _ _ (λ l. longer_list (within_facts 1 2 version (not-false _ w)) (ltb-true _ _ l)) (λ l. figured))

  number : PlanReply → ℕ
  number (planned fs) = 0
  number (refused r) = r

  pub refused_11 : (plan version cs ≡ refused 11) ↔ (¬ VersionRight version)
  unfolding plan number
  refused_11 = (to plan_outcome, from (within 1 2 version) (within_facts 1 2 version))
    where
      to : {r : PlanReply} → PlanOf r → r ≡ refused 11 → ¬ VersionRight version
      to (other_version n) e = n
      to (longer_list v l) e = let z : ◌≡◌ {A = ℕ} 9 11 = ap number e in absurd (omega arith)
      to figured e = let z : ◌≡◌ {A = ℕ} 0 11 = ap number e in absurd (omega arith)

      from : (b : Bool) → (b ≡ true → VersionRight version) → ¬ VersionRight version
          → (if not b then refused 11 else if ltb 64 (length cs) then refused 9 else planned (all_figures (opened_for 1 version) fresh cs)) ≡ refused 11
      from true f n = absurd (n (f refl))
      from false f n = refl

  pub refused_9 : (plan version cs ≡ refused 9) ↔ (VersionRight version × (64 < length cs))
  unfolding plan number
  refused_9 = (to plan_outcome, λ h. rw (right h.0, lt-ltb _ _ h.1))
    where
      to : {r : PlanReply} → PlanOf r → r ≡ refused 9 → VersionRight version × (64 < length cs)
      to (other_version n) e = let z : ◌≡◌ {A = ℕ} 11 9 = ap number e in absurd (omega arith)
      to (longer_list v l) e = (v, l)
      to figured e = let z : ◌≡◌ {A = ℕ} 0 9 = ap number e in absurd (omega arith)

  -- a refusal has one of these two numbers, so that `refusal_of` tells it
  pub only_9_and_11 : (r : ℕ) → plan version cs ≡ refused r → refusal_number (refusal_of r) ≡ r
  unfolding number
  only_9_and_11 r e = go plan_outcome e
    where
      go : {x : PlanReply} → PlanOf x → x ≡ refused r → refusal_number (refusal_of r) ≡ r
      go (other_version n) f = let z : 11 ≡ r = ap number f in rw (← z) refl
      go (longer_list v l) f = let z : 9 ≡ r = ap number f in rw (← z) refl
      go figured f = absurd (let none : ⊥ = cc in none)
