-- What is promised of the planner (paper 02, U11).
--
--   plan_is_run   "Its figures equal those of the run.": for every list of at most 64 calls, either version, T tasks, an opening with at least
--                 2T + 2 nodes and 32 × (2T + 2) + 4T buckets, whatever stood in the two slices before, and each task: the answers, own steps
--                 and buckets taken that the outputs of a run say, in which this task makes these calls alone, are the planner's
--
-- What a call costs depends on the head's size and its predecessor's and on which places are filled (Alone): an insert or a remove fills its
-- tag's place, a contains none, a resize all, and leaves a new head with none. By the task's position so many steps and buckets are left; each
-- step of the model takes one step off, and line 49 one bucket (StepsAlone); the step that ends the call leaves the head as the planner says
-- and answers as the plain set (EndsAlone). That outputs tell how many bucket records were taken is `at_50_tells` (BucketOutputs). By induction
-- over the calls. Assumes nothing.
use Rattle.std.proofs.Math.Path.{◌≡◌, refl, ap, subst}
use Rattle.std.proofs.Common.{◌∙◌, arith}
use Rattle.std.specs.Prelude.{Bool, not, ℕ, ◌≤◌, ◌<◌, eqb, ltb, length, replicate, if◌then◌else◌, Ok}
use Rattle.std.proofs.Math.Bool.{true, false}
use mathlib.Core.List.{List, [], ◌∷◌, ◌++◌}
use Rattle.spec.specs.declared.Task.{Task}
use Rattle.spec.specs.declared.Call.{Call}
use Rattle.spec.specs.declared.Call.TheVariants.{Insert, Remove, Contains, Grow, Shrink}
use Rattle.spec.specs.declared.Config.{Config}
use Rattle.spec.specs.Outputs.{Output}
use Rattle.spec.specs.declared.Progress.TheVariants as Outs
use Rattle.spec.specs.Machine.{Machine, idle, fresh_task, state_of, task_of, set_task}
use Rattle.spec.specs.Sound.{task_count, version_known}
use Rattle.spec.specs.Listed.{key, slot}
use Rattle.spec.specs.Entries.{Reply, started, withdrawn, start, fresh_machine, opening}
use Rattle.spec.specs.Schedule.{Event, starts, steps, event, run, schedule}
use Rattle.laws.specs.Tests.{tf, at_hit}
use Rattle.laws.specs.Ascending.{Rising}
use Rattle.laws.specs.Soundness.{sound_facts}
use Rattle.laws.specs.AfterWrites.{after_task}
use Rattle.laws.specs.OpeningSound.{opened_machine}
use Rattle.laws.specs.EntriesKeep.{StartOutcome, start_no_task, start_running, start_withdrawn, start_accepted, start_outcome}
use Rattle.model.specs.Functions.{upd_same}
use Rattle.model.specs.Positions.{Position}
use Rattle.model.specs.Runs.{Configuration}
use Rattle.linear.specs.Represents.{size_bound}
use Rattle.linear.specs.FirstPositions.{first_of}
use Rattle.linear.specs.Opening.{same_default}
use Rattle.linear.specs.Schedules.{schedule_runs}
use Rattle.linear.specs.EventOutcomes.{EventOutcome, start_refused, call_started}
use Rattle.linear.proofs.EventOutcomes.{event_simulated}
use Rattle.bounds.specs.EnoughRecords.{Enough}
use Rattle.bounds.proofs.RecordsSuffice.{enough_after, enough_at_opening}
use Rattle.plans.specs.declared.Planned.{Planned}
use Rattle.plans.specs.declared.Figures.{Figures}
use Rattle.plans.specs.Plan.{Shape, head_size, fresh, call_figures, after_update, after_call, all_figures, PlanReply, planned, refused, opened_for, plan}
use Rattle.plans.specs.Run.{calls_alone, figures_run, PlanIsRun}
use Rattle.plan_laws.specs.Alone.{steps_left}
use Rattle.plan_laws.specs.CallFigures.{first_figures, first_shape, first_solo, steps_at_most, rising_after, fresh_laid_out, fresh_tags}
use Rattle.plan_laws.specs.WordsAlone.{CallUnderway}
use Rattle.plan_laws.specs.CallRuns.{BetweenCalls, config_kept, CallRuns, call_runs}

-- ---- an accepted start leads to the first line, and is no `At 50`

first_record : (call : Call) (k : ℕ) → ((started call k).running ≡ true) × ((started call k).own ≡ 0) × (eqb (started call k).line 50 ≡ false)
unfolding started fresh_task
first_record Insert k = (refl, refl, refl)
first_record Remove k = (refl, refl, refl)
first_record Contains k = (refl, refl, refl)
first_record Grow k = (refl, refl, refl)
first_record Shrink k = (refl, refl, refl)

-- under the old rule every call may be started
none_withdrawn : (t version : ℕ) (call : Call) (k : ℕ) → withdrawn (opened_for t version) call k ≡ false
unfolding withdrawn
none_withdrawn t version Insert k = refl
none_withdrawn t version Remove k = refl
none_withdrawn t version Contains k = refl
none_withdrawn t version Grow k = refl
none_withdrawn t version Shrink k = refl

-- how many tasks there are does not matter
module _ (t version : ℕ) where
  figures_same : (S : Shape) (call : Call) (k : ℕ) → call_figures (opened_for t version) S call k ≡ call_figures (opened_for 1 version) S call k
  unfolding call_figures slot key
  figures_same S Insert k = refl
  figures_same S Remove k = refl
  figures_same S Contains k = refl
  figures_same S Grow k = refl
  figures_same S Shrink k = refl

  after_same : (S : Shape) (call : Call) (k : ℕ) → after_call (opened_for t version) S call k ≡ after_call (opened_for 1 version) S call k
  unfolding after_call after_update slot key
  after_same S Insert k = refl
  after_same S Remove k = refl
  after_same S Contains k = refl
  after_same S Grow k = refl
  after_same S Shrink k = refl

  same_tasks : (S : Shape) (cs : List Planned) → all_figures (opened_for t version) S cs ≡ all_figures (opened_for 1 version) S cs
  unfolding all_figures
  same_tasks S [] = refl
  same_tasks S (c ∷ cs) =
      rw (figures_same S c.call c.tag, after_same S c.call c.tag, same_tasks (after_call (opened_for 1 version) S c.call c.tag) cs)

module _ (t version p : ℕ) (lt : p < t) where
  abbrev g : Config
  g = opened_for t version

  -- ---- one call
  module _ (S : Shape) (up : Rising S.tags) (y : Machine) (s : BetweenCalls g p S y) (call : Call) (k : ℕ) where
    below_T : p < task_count y
    below_T = let e = ap (λ (x : Config). x.tasks) s.config≡ in omega arith

    start_accepts : start y p call k ≡ record { out = Ok (Outs.At (started call k).line); machine = set_task p (started call k) y }
    start_accepts = go (start_outcome y p call k s.enough_now.sim.sound_now)
      where
        go : {m : Reply} → StartOutcome y p call k m → m ≡ record { out = Ok (Outs.At (started call k).line); machine = set_task p (started call k) y }
        go (start_no_task a) = let b = below_T in absurd (omega arith)
        go (start_running a b) = absurd (tf b s.resting)
        go (start_withdrawn a b c) = absurd (tf c (ap (λ (x : Config). withdrawn x call k) s.config≡ ∙ none_withdrawn t version call k))
        go (start_accepted a b c) = refl

    started_at : {o : Output} {v : Configuration} → EventOutcome y s.enough_now.configuration (starts p call k) o v
        → o ≡ Ok (Outs.At (started call k).line)
        → (v.position p ≡ first_of call k) × (v.heap ≡ s.enough_now.configuration.heap)
    started_at (start_refused p call k r other) q = let z : ◌≡◌ {A = ℕ} 0 1 = cc in absurd (omega arith)
    started_at (call_started p call k n lt a) q = (upd_same s.enough_now.configuration.position p (first_of call k), refl)

    started_record : task_of (start y p call k).machine p ≡ started call k
    started_record =
        let f = sound_facts y s.enough_now.sim.sound_now in
        let a = below_T in
        let b = f.config.T_high in
        let lt : p < length y.state.task = rw s.enough_now.sim.eight_tasks (omega arith) in
        ap (λ (r : Reply). task_of r.machine p) start_accepts ∙ at_hit (refl, lt) ((after_task y p (started call k)).task_at p)

    begin_call : (u : CallUnderway g p S 0 (start y p call k).machine) × (u.enough_now.configuration.position p ≡ first_of call k)
    unfolding event enough_after
    begin_call =
        let e = event_simulated y s.enough_now.configuration s.enough_now.reach s.enough_now.sim (starts p call k) in
        let a = started_at e.outcome (ap (λ (r : Reply). r.out) start_accepts) in
        let now = ap (λ (c : Task). c.running) started_record ∙ (first_record call k).0 in (
          record {
            enough_now = enough_after y s.enough_now (starts p call k) e.configuration e.reach e.sim;
            config≡ = config_kept g y s.config≡ (starts p call k);
            running = now;
            own≡ = ap (λ (c : Task). c.own) started_record ∙ (first_record call k).1;
            rising = up;
            tags_as = rw a.1 s.tags_as;
            solo = rw (a.0, a.1) (first_solo S s.enough_now.configuration.heap call k s.laid_out);
          },
          a.0,
        )

    -- the head has at most 32 places
    size_at_most : head_size S ≤ 32
    size_at_most =
        let n = s.enough_now in
        rw s.laid_out.head_as.size≡ at
        (size_bound (sound_facts y n.sim.sound_now) n.sim.rep n.configuration.heap.head n.sim.rep.head_known)

    start_adds_none : (os : List Output) → figures_run 0 ((start y p call k).out ∷ os) ≡ figures_run 0 os
    unfolding figures_run
    start_adds_none os =
        ap (λ (o : Output). figures_run 0 (o ∷ os)) (ap (λ (r : Reply). r.out) start_accepts)
        ∙ ap (λ (v : Bool). figures_run (if v then 1 else 0) os) (first_record call k).2

    -- stepped 292 times: its figures, and what is left for the next one
    one_call : (es : List Event) → (z : Machine) × BetweenCalls g p (after_call g S call k) z
        × (figures_run 0 (run y (starts p call k ∷ replicate 292 (steps p) ++ es)).outs ≡ call_figures g S call k ∷ figures_run 0 (run z es).outs)
    unfolding run event
    one_call es =
        let b = begin_call in
        let at_first = ap (steps_left g S) b.1 in
        let most = steps_at_most g S call k size_at_most in
        let r = call_runs g p S es 292 0 0 (start y p call k).machine b.0 (omega arith) (omega arith) in
        let os = (run (start y p call k).machine (replicate 292 (steps p) ++ es)).outs in
        let c : CallRuns g p S es 0 0 (first_of call k) os = subst (λ (l : Position). CallRuns g p S es 0 0 l os) b.1 r in (
          c.0,
          subst (λ (K : Shape). BetweenCalls g p K c.0) (first_shape g S call k) c.1,
          start_adds_none os ∙ c.2 ∙ ap (λ (f : Figures). f ∷ figures_run 0 (run c.0 es).outs) (first_figures g S call k),
        )

  -- ---- all calls

  no_outputs : (y : Machine) → figures_run 0 (run y []).outs ≡ []
  unfolding run figures_run
  no_outputs y = refl

  calls_run : (S : Shape) → Rising S.tags → (y : Machine) → BetweenCalls g p S y → (cs : List Planned)
      → figures_run 0 (run y (calls_alone p cs)).outs ≡ all_figures g S cs
  unfolding calls_alone all_figures
  calls_run S up y s [] = no_outputs y
  calls_run S up y s (c ∷ cs) =
      let r = one_call S up y s c.call c.tag (calls_alone p cs) in
      r.2 ∙ ap (λ (fs : List Figures). call_figures g S c.call c.tag ∷ fs)
      (calls_run (after_call g S c.call c.tag) (rising_after g S c.call c.tag up) r.0 r.1 cs)

  module _ (ns bs : List ℕ) (ok : (opening g ns bs).refusal ≡ 0) (enough : Enough g ns bs) where
    opened_between_calls : BetweenCalls g p fresh (opening g ns bs).machine
    unfolding enough_at_opening fresh_machine state_of task_of idle
    opened_between_calls =
        let is = opened_machine g ns bs ok in
        record {
          enough_now = enough_at_opening g ns bs ok enough;
          config≡ = rw is refl;
          resting = rw is (ap (λ (c : Task). c.running) (same_default 8 p idle));
          tags_as = fresh_tags (key g);
          laid_out = fresh_laid_out (key g);
        }

    fresh_rising : Rising fresh.tags
    unfolding fresh
    fresh_rising = tt

    figures_are_run : (cs : List Planned) → figures_run 0 (schedule g ns bs (calls_alone p cs)).outs ≡ all_figures g fresh cs
    figures_are_run cs =
        rw (schedule_runs g ns bs ok (calls_alone p cs)) (calls_run fresh fresh_rising (opening g ns bs).machine opened_between_calls cs)

    pub plan_is_run : (cs : List Planned) → PlanIsRun t version ns bs p cs
    unfolding plan
    plan_is_run cs fs e = figures_are_run cs ∙ go (not (version_known (opened_for 1 version))) (ltb 64 (length cs)) e
      where
        go : (unknown long : Bool)
            → ◌≡◌ {A = PlanReply} (if unknown then refused 11 else if long then refused 9 else planned (all_figures (opened_for 1 version) fresh cs))
            (planned fs)
            → all_figures g fresh cs ≡ fs
        go true long q = let z : ◌≡◌ {A = ℕ} 0 1 = cc in absurd (omega arith)
        go false true q = let z : ◌≡◌ {A = ℕ} 0 1 = cc in absurd (omega arith)
        go false false q = same_tasks t version fresh cs ∙ (cc)
