-- The steps of a call that a task makes alone: it ends with as many own steps as are left at its position, and the run's figures are those
-- made until now and those left. Steps after its end are refused and add nothing. By induction over the steps. Assumes nothing.
use Rattle.std.specs.Prelude.{◌≡◌, ◌⊎◌, Bool, true, false, length, replicate, if◌then◌else◌, Option, ℕ, Ok}
use Rattle.std.proofs.Math.Path.{refl, ap}
use Rattle.std.proofs.Common.{sym, ◌∙◌, subst, inl, inr}
use mathlib.Core.List.{List, ◌∷◌, ◌++◌}
use Prim.Native.Nat.{ℕ, zero, suc, ◌+◌, ◌≤◌, ◌<◌}
use native.Mathlib.Omega.{arith}
use Rattle.std.proofs.Math.Dec.{eqb}
use Rattle.spec.specs.declared.Refusal.{Refusal}
use Rattle.spec.specs.declared.Refusal.TheVariants.{NoTask, Idle}
use Rattle.spec.specs.declared.Answer.{Answer}
use Rattle.spec.specs.declared.Config.{Config}
use Rattle.spec.specs.Outputs.{Output}
use Rattle.spec.specs.declared.Progress.TheVariants as Outs
use Rattle.spec.specs.Machine.{Machine, task_of}
use Rattle.spec.specs.Lines.{effect}
use Rattle.spec.specs.Entries.{Reply, refuse, step}
use Rattle.spec.specs.Schedule.{Event, steps, event, run}
use Rattle.laws.specs.Tests.{tf, bool?}
use Rattle.laws.specs.Soundness.{sound_facts, run_of}
use Rattle.laws.specs.LastChosen.{Fixed, event_same}
use Rattle.laws.specs.EntriesKeep.{StepOutcome, step_no_task, step_idle, step_unsound, step_all_held, step_accepted, step_outcome}
use Rattle.model.specs.Positions.{Position, no_call}
use Rattle.model.specs.Runs.{Configuration, Reachable}
use Rattle.linear.specs.Matches.{idle_no_call}
use Rattle.linear.specs.Simulates.{Simulates}
use Rattle.linear.specs.Accepted.{OwnAfter, accept_own}
use Rattle.linear.proofs.EventOutcomes.{event_simulated}
use Rattle.bounds.specs.RecordsSuffice.{EnoughNow}
use Rattle.bounds.proofs.RecordsSuffice.{enough_after}
use Rattle.plans.specs.declared.Figures.{Figures}
use Rattle.plans.specs.Plan.{figures, Shape}
use Rattle.plans.specs.Run.{figures_run}
use Rattle.plan_laws.specs.Alone.{LaidOut, steps_left, buckets_left, answer_then, shape_then}
use Rattle.plan_laws.specs.EndsAlone.{TagsAs}
use Rattle.plan_laws.specs.CallFigures.{figures_at, same_figures}
use Rattle.plan_laws.specs.WordsAlone.{CallUnderway, step_accepts, SoloOutcome, on, over, solo_outcome}

-- ---- between two calls: the task rests, and head and set are as the planner has them
pub record BetweenCalls (g : Config) (p : ℕ) (S : Shape) (y : Machine) : Type 0 where
  pub enough_now : EnoughNow y
  pub config≡ : y.state.config ≡ g
  pub resting : (task_of y p).running ≡ false
  pub tags_as : TagsAs S.tags enough_now.configuration.heap
  pub laid_out : LaidOut S enough_now.configuration.heap

-- a step of a resting task is refused
idle_refused : (y : Machine) (p : ℕ) → (task_of y p).running ≡ false → EnoughNow y → (r : Refusal) × (step y p ≡ refuse r y)
idle_refused y p e s = go (step_outcome y p s.sim.sound_now)
  where
    go : {m : Reply} → StepOutcome y p m → (r : Refusal) × (m ≡ refuse r y)
    go (step_no_task a) = (NoTask, refl)
    go (step_idle a b) = (Idle, refl)
    go (step_unsound a b c) = absurd (tf b e)
    go (step_all_held a b c d) = absurd (tf b e)
    go (step_accepted a b c d) = absurd (tf b e)

-- and adds nothing to the figures
idle_adds_none : (y : Machine) (p : ℕ) → (task_of y p).running ≡ false → EnoughNow y → (m b : ℕ) (es : List Event)
    → figures_run b (run y (replicate m (steps p) ++ es)).outs ≡ figures_run b (run y es).outs
unfolding run event figures_run refuse
idle_adds_none y p e s zero b es = refl
idle_adds_none y p e s (suc m) b es = let r = idle_refused y p e s in rw r.1 (idle_adds_none y p e s m b es)

-- what the state keeps of its opening stays
pub config_kept : (g : Config) (y : Machine) → y.state.config ≡ g → (e : Event) → (event y e).machine.state.config ≡ g
config_kept g y q e = ap (λ (f : Fixed). f.config) (event_same y e) ∙ q

-- a task that stands at a position runs
runs_at : (y : Machine) (p : ℕ) (s : EnoughNow y) → ¬ (s.configuration.position p ≡ no_call) → (task_of y p).running ≡ true
runs_at y p s d = go (bool? (task_of y p).running)
  where
    go : ((task_of y p).running ≡ true) ⊎ ((task_of y p).running ≡ false) → (task_of y p).running ≡ true
    go (inl e) = e
    go (inr e) =
        absurd (d (idle_no_call s.configuration.heap s.sim.records (task_of y p) e (s.configuration.position p) (s.sim.matches p)))

bucket_more : (n b c : ℕ) → b + ((if eqb n 50 then 1 else 0) + c) ≡ (if eqb n 50 then suc b else b) + c
bucket_more n b c = go (eqb n 50)
  where
    go : (v : Bool) → b + ((if v then 1 else 0) + c) ≡ (if v then suc b else b) + c
    go true = omega arith
    go false = omega arith

same_first : {c d : Figures} {xs fs : List Figures} → xs ≡ c ∷ fs → d ≡ c → xs ≡ d ∷ fs
same_first e f = rw f e

module _ (g : Config) (p : ℕ) (S : Shape) (es : List Event) where
  -- the call at position l ends, and the run goes on with es from there
  abbrev pub CallRuns : ℕ → ℕ → Position → List Output → Type 0
  CallRuns own b l os =
      (z : Machine) × BetweenCalls g p (shape_then g S l) z × (figures_run b os ≡ figures_at g S own b l ∷ figures_run 0 (run z es).outs)

  abbrev pub here : {own : ℕ} {y : Machine} → CallUnderway g p S own y → Position
  here u = u.enough_now.configuration.position p

  abbrev pub left : {own : ℕ} {y : Machine} → CallUnderway g p S own y → ℕ
  left u = steps_left g S (here u)

  abbrev pub Runs : ℕ → Type 0
  Runs m = (own b : ℕ) (y : Machine) (u : CallUnderway g p S own y) → left u ≤ m → own + left u < 65535
      → CallRuns own b (here u) (run y (replicate m (steps p) ++ es)).outs

  -- the task's record after a step
  record_after : (own : ℕ) (y : Machine) → CallUnderway g p S own y → (o : Output) → (step y p).out ≡ o
      → OwnAfter (task_of y p).own (task_of (step y p).machine p) o
  record_after own y u o q =
      let f = sound_facts y u.enough_now.sim.sound_now in
      let b = (run_of y f p u.running).below_T in
      let c = f.config.T_high in
      let lt : p < length y.state.task = rw u.enough_now.sim.eight_tasks (omega arith) in
      let m = accept_own y p (task_of y p).own (effect y (task_of y p)) lt in
      let z =
      subst (λ (r : Reply). OwnAfter (task_of y p).own (task_of r.machine p) r.out) (sym (step_accepts g p S own y u)) m in
      subst (OwnAfter (task_of y p).own (task_of (step y p).machine p)) q z

  -- its next step leads on, or ends it
  module _ (m : ℕ) (ih : Runs m) (own b : ℕ) (y : Machine) (u : CallUnderway g p S own y) (le : left u ≤ suc m)
      (small : own + left u < 65535) where
    abbrev Goes : Output → Type 0
    Goes o = CallRuns own b (here u) (o ∷ (run (step y p).machine (replicate m (steps p) ++ es)).outs)

    leads_on : (n : ℕ) (v : CallUnderway g p S (suc own) (step y p).machine) → left u ≡ suc (left v)
        → buckets_left g S (here u) ≡ (if eqb n 50 then 1 else 0) + buckets_left g S (here v)
        → answer_then g S (here u) ≡ answer_then g S (here v) → shape_then g S (here u) ≡ shape_then g S (here v) → Goes (Ok (Outs.At n))
    unfolding figures_run
    leads_on n v st bk an sh =
        let r = ih (suc own) (if eqb n 50 then suc b else b) (step y p).machine v (omega arith) (omega arith) in
        let a : own + left u ≡ suc own + left v = omega arith in
        let c = ap (λ (x : ℕ). b + x) bk ∙ bucket_more n b (buckets_left g S (here v)) in
        (r.0, rw sh r.1, same_first r.2 (same_figures an a c))

    ends : (a : Answer) (full : Option ℕ) → BetweenCalls g p (shape_then g S (here u)) (step y p).machine → a ≡ answer_then g S (here u)
        → left u ≡ 1 → buckets_left g S (here u) ≡ 0 → Goes (Ok (Outs.End a (suc own) full))
    unfolding figures_run
    ends a full z an st bk =
        let c : own + left u ≡ suc own = omega arith in
        let d : b + buckets_left g S (here u) ≡ b = omega arith in
        let rest = idle_adds_none (step y p).machine p z.resting z.enough_now m 0 es in
        ((step y p).machine, z, same_first (ap (λ (x : List Figures). figures a (suc own) b ∷ x) rest) (same_figures (sym an) c d))

    next_step : {o : Output} {v : Configuration} → (step y p).out ≡ o → Reachable v → Simulates (step y p).machine v.heap v.position
        → SoloOutcome g p S own (here u) o v → Goes o
    unfolding event enough_after
    next_step {v = v} q reach sim (on n d so tags st bk an sh) =
        let s = enough_after y u.enough_now (steps p) v reach sim in
        let own_now : (task_of (step y p).machine p).own ≡ suc own = (record_after own y u (Ok (Outs.At n)) q).1 ∙ (let e = u.own≡ in omega arith) in
        leads_on n
        (record {
          enough_now = s;
          config≡ = config_kept g y u.config≡ (steps p);
          running = runs_at (step y p).machine p s d;
          own≡ = own_now;
          rising = u.rising;
          tags_as = tags;
          solo = so;
        }) st bk an sh
    next_step {v = v} q reach sim (over a full e) =
        let s = enough_after y u.enough_now (steps p) v reach sim in
        ends a full
        (record {
          enough_now = s;
          config≡ = config_kept g y u.config≡ (steps p);
          resting = (record_after own y u (Ok (Outs.End a (suc own) full)) q).0;
          tags_as = e.tags_as;
          laid_out = e.laid_out;
        }) e.answer e.steps e.buckets

  -- some step is left while it runs
  some_left : {own : ℕ} {l : Position} {o : Output} {v : Configuration} → SoloOutcome g p S own l o v → 0 < steps_left g S l
  some_left (on n d so tags st bk an sh) = omega arith
  some_left (over a full e) = let one = e.steps in omega arith

  outcome_of : (own : ℕ) (y : Machine) (u : CallUnderway g p S own y) → own < 65535
      → (v : Configuration) × Reachable v × Simulates (step y p).machine v.heap v.position × SoloOutcome g p S own (here u) (step y p).out v
  unfolding event
  outcome_of own y u small =
      let e = event_simulated y u.enough_now.configuration u.enough_now.reach u.enough_now.sim (steps p) in
      (e.configuration, e.reach, e.sim, solo_outcome g p S own y u small e.outcome refl)

  pub call_runs : (m : ℕ) → Runs m
  unfolding run event
  call_runs zero own b y u le small = let e = outcome_of own y u (omega arith) in let z = some_left e.3 in absurd (omega arith)
  call_runs (suc m) own b y u le small =
      let e = outcome_of own y u (omega arith) in next_step m (call_runs m) own b y u le small refl e.1 e.2 e.3
