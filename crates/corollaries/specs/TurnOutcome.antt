-- A turn of the dispatcher by its outcome, and whom it goes to: the first running task after the last one chosen, going round. Assumes
-- nothing.
use Rattle.std.specs.Prelude.{ℕ, ◌<◌, ◌⊎◌, Bool, ◌&&◌, eqb, Ok, Err}
use Rattle.std.proofs.Math.Path.{◌≡◌, refl, sym, ap}
use Rattle.std.proofs.Common.{◌∙◌, inl, inr}
use Rattle.std.proofs.Math.Bool.{true, false, not}
use native.Mathlib.Omega.{arith}
use borrow.Author.Tests.{eqb-true, eqb-false, not-true, not-false}
use Rattle.spec.specs.declared.Refusal.{Refusal}
use Rattle.spec.specs.declared.Refusal.TheVariants.{NoRecord, Spoilt}
use Rattle.spec.specs.Outputs.{Output}
use Rattle.spec.specs.declared.Progress.TheVariants.{At, End}
use Rattle.spec.specs.Lists.{member, range}
use Rattle.spec.specs.Machine.{Machine, with_chosen, task_of}
use Rattle.spec.specs.Words.{link, number}
use Rattle.spec.specs.Sound.{task_count, sound}
use Rattle.spec.specs.Entries.{Reply, step}
use Rattle.spec.specs.Numbers.{refusal_number}
use Rattle.turns.specs.declared.Turn.TheVariants.{Idle, Of, Refused}
use Rattle.turns.specs.Turn.{idle_tasks, next_task, Turned, gives, after_step, turn_to, turn}
use Rattle.laws.specs.Tests.{bool?, tf, and2, choose}
use Rattle.laws.specs.Lists.{range_low, range_has}
use Rattle.laws.specs.Ascending.{member_filter}
use Rattle.laws.specs.Links.{true_filled}
use Rattle.laws.specs.Soundness.{sound_facts}
use Rattle.laws.specs.Taking.{FirstFree, Taking, none_free, takes, taking}
use Rattle.laws.specs.RefusalNumbers.{same_refusal}
use Rattle.corollaries.specs.Unchanged.{refused_step_changes_nothing}
use Rattle.corollaries.specs.Tables.{StepRefused, step_refused, is_4, is_6, is_7, is_8, is_8_step}

-- ---- who is next

module _ (y : Machine) where
  -- task k is there, and runs nothing
  abbrev pub IdleTask : ℕ → Type 0
  IdleTask k = (k < task_count y) × ((task_of y k).running ≡ false)

  -- it runs, and every task between the last one chosen and it, going round, is idle
  pub record Next (k : ℕ) : Type 0 where
    pub below : k < task_count y
    pub runs : (task_of y k).running ≡ true
    pub first : FirstFree IdleTask (task_count y) y.state.chosen k

  -- an idle task's link is among those of idle tasks, a running one's is not
  pub idle_member : (k : ℕ) → k < task_count y → member (link k) (idle_tasks y) ≡ not (task_of y k).running
  unfolding idle_tasks
  idle_member k h =
      let same : number (link k) ≡ k = omega arith in
      member_filter (link k) _ (range 1 (task_count y)) ∙ rw (same, range_has (link k) 1 (task_count y) (omega arith) (omega arith)) (and_true _)
    where
      and_true : (b : Bool) → (b && true) ≡ b
      and_true true = refl
      and_true false = refl

  idle_below : (k : ℕ) → member (link k) (idle_tasks y) ≡ true → k < task_count y
  unfolding idle_tasks
  idle_below k e =
      let all = range 1 (task_count y) in
      let p = and2 (not (task_of y (number (link k))).running) (member (link k) all) (sym (member_filter (link k) _ all) ∙ e) in
      let q = range_low (link k) 1 (task_count y) p.1 in
      omega (arith, q.1)

  pub next_taking : sound y ≡ true → Taking IdleTask (task_count y) y.state.chosen (next_task y)
  unfolding next_task
  next_taking ok =
      let f = sound_facts y ok in
      taking IdleTask (idle_tasks y) (task_count y) y.state.chosen f.config.T_low f.chosen
      (λ k e. let h = idle_below k e in (h, not-true _ (sym (idle_member k h) ∙ e)))
      (λ k p. idle_member k p.0 ∙ ap not p.1)

  is_next : (k : ℕ) → k < task_count y → FirstFree IdleTask (task_count y) y.state.chosen k → Next k
  is_next k h first = record { below = h; runs = go (bool? (task_of y k).running); first = first }
    where
      go : ((task_of y k).running ≡ true) ⊎ ((task_of y k).running ≡ false) → (task_of y k).running ≡ true
      go (inl e) = e
      go (inr e) = absurd (first.not_held (h, e))

-- ---- a turn, by its outcome

pub data TurnOutcome (y : Machine) : Turned → Type 0 where
  spoilt : sound y ≡ false → TurnOutcome y (gives (Refused Spoilt) y)
  nothing_runs : sound y ≡ true → ((k : ℕ) → k < task_count y → IdleTask y k) → TurnOutcome y (gives Idle y)
  -- the turn is the step of the task that is next, accepted or refused with 7
  goes : (k : ℕ) (o : Output) (z : Machine) → sound y ≡ true → Next y k → (step y k).out ≡ o → (step y k).machine ≡ z
      → ((r : Refusal) → o ≡ Err r → r ≡ NoRecord) → TurnOutcome y (gives (Of k o) (with_chosen k z))
  -- its step is refused with 8
  step_spoilt : (k : ℕ) → sound y ≡ true → Next y k → (step y k).out ≡ Err Spoilt → TurnOutcome y (gives (Of k (Err Spoilt)) y)

module _ (y : Machine) (ok : sound y ≡ true) (k : ℕ) (n : Next y k) where
  abbrev reply : Reply
  reply = step y k

  -- a running task's step is refused with 7 or 8 only
  only_8 : (r : Refusal) → reply.out ≡ Err r → ¬ (r ≡ NoRecord) → r ≡ Spoilt
  only_8 r e d = go ((step_refused y k r).0 e)
    where
      go : StepRefused y k r → r ≡ Spoilt
      go (is_8 q a) = q
      go (is_4 q f h) = absurd (let b = n.below in omega arith)
      go (is_6 q f h s) = absurd (tf n.runs s)
      go (is_8_step q f h g a) = q
      go (is_7 q f h g b a) = absurd (d q)

  after_outcome : (o : Output) → reply.out ≡ o → TurnOutcome y (after_step y k o reply.machine)
  unfolding after_step
  after_outcome (Ok (At line)) e = goes k (Ok (At line)) reply.machine ok n e refl (λ r q. absurd (let z : ◌≡◌ {A = ℕ} 0 1 = cc in omega arith))
  after_outcome (Ok (End a own full)) e = goes k (Ok (End a own full)) reply.machine ok n e refl (λ r q. absurd (let z : ◌≡◌ {A = ℕ} 0 1 = cc in omega arith))
  after_outcome (Err r) e =
      choose (λ (m : Machine). TurnOutcome y (gives (Of k (Err r)) m)) (eqb (refusal_number r) 7) _ _
      (λ q. goes k (Err r) y ok n e (refused_step_changes_nothing y k r e) (λ s p. let same : r ≡ s = cc in sym same ∙ same_refusal r NoRecord (eqb-true (refusal_number r) 7 q)))
      (λ q. let eight = only_8 r e (λ s. eqb-false (refusal_number r) 7 q (ap refusal_number s)) in rw eight (step_spoilt k ok n (rw eight at e)))

pub turn_outcome : (y : Machine) → TurnOutcome y (turn y)
unfolding turn turn_to
turn_outcome y =
    choose (TurnOutcome y) (not (sound y)) _ _ (λ s. spoilt (not-true _ s)) (λ s. let ok = not-false (sound y) s in to ok (next_task y) (next_taking y ok))
  where
    to : sound y ≡ true → (l : ℕ) → Taking (IdleTask y) (task_count y) y.state.chosen l → TurnOutcome y (turn_to y l)
    to ok l (none_free z all) = rw z (nothing_runs ok all)
    to ok l (takes k z h first) =
        let same : number (link k) ≡ k = omega arith in
        rw (z, true_filled (link k) (λ e. omega arith), same) (after_outcome y ok k (is_next y k h first) (step y k).out refl)
