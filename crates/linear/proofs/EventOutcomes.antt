-- What rests on statements of specs/EventOutcomes.antt that a must-fail edit makes false: theorems moved from there as they stood. Assumes nothing.
use Rattle.std.specs.Prelude.{◌≡◌, refl, true, false, ℕ, ◌+◌, min, ◌≤◌, ◌<◌, length, Ok, Err}
use Rattle.std.proofs.Math.Path.{ap}
use Rattle.std.proofs.Common.{◌∙◌, arith}
use Rattle.spec.specs.declared.Refusal.TheVariants.{NoTask, Running, Idle, NoRecord, Spoilt, Withdrawn}
use Rattle.spec.specs.declared.Refusal.{Refusal}
use Rattle.spec.specs.declared.Task.{Task}
use Rattle.spec.specs.declared.Call.{Call}
use Rattle.spec.specs.Outputs.{Output}
use Rattle.spec.specs.declared.Progress.TheVariants as Outs
use Rattle.spec.specs.Machine.{Machine, idle, with_own, task_of}
use Rattle.spec.specs.Words.{apply}
use Rattle.spec.specs.Sound.{sound}
use Rattle.spec.specs.Lines.{Effect, Next, effect}
use Rattle.spec.specs.Entries.{Reply, refuse, started, finish, accept}
use Rattle.spec.specs.Schedule.{Event, starts, steps, event}
use Rattle.spec.specs.Numbers.{refusal_number}
use Rattle.laws.specs.RefusalNumbers.{apart}
use Rattle.laws.specs.Tests.{tf, at_hit}
use Rattle.laws.specs.SoundFacts.{SoundFacts, TaskFacts, runs, is_idle}
use Rattle.laws.specs.Soundness.{sound_facts, run_of}
use Rattle.laws.specs.AfterWrites.{after_task, apply_task}
use Rattle.laws.specs.StepRefusals.{step_sound_facts}
use Rattle.laws.specs.EffectSound.{NextSound}
use Rattle.laws.proofs.LinesKeep.{effect_sound}
use Rattle.laws.specs.EntriesKeep.{StartOutcome, start_no_task, start_running, start_withdrawn, start_accepted, start_outcome, start_keeps}
use Rattle.laws.specs.EntriesKeep.{StepOutcome, step_no_task, step_idle, step_unsound, step_all_held, step_accepted, step_outcome}
use Rattle.laws.proofs.EntriesKeep.{step_keeps}
use Rattle.model.specs.Positions.{no_call}
use Rattle.model.specs.Runs.{Configuration, after_refusal, after_start, Reachable, refused, begins, steps_on, ends_set_call}
use Rattle.model.proofs.Linearization.{invariant}
use Rattle.linear.specs.Matches.{running_call, matches_line, idle_no_call}
use Rattle.linear.specs.Simulates.{Simulates}
use Rattle.linear.specs.StepSimulated.{Outcome, went_on, call_ended, resize_ended}
use Rattle.linear.proofs.StepSimulated.{simulate, on_still}
use Rattle.linear.proofs.Accepted.{accepts}
use Rattle.linear.specs.FirstPositions.{first_of, is_first, first_names, first_match, first_takes}
use Rattle.linear.specs.EventOutcomes.{Other, EventOutcome, EventSimulated, StandsAt, call_started, none_free, start_refused, step_refused, stepped}

other : (r : Refusal) → ¬ (refusal_number r ≡ 7) → ¬ (refusal_number r ≡ 8) → Other r
other r f g = (apart r NoRecord f, apart r Spoilt g)

module _ (y : Machine) (w : Configuration) (reach : Reachable w) (sim : Simulates y w.heap w.position) where
  facts : SoundFacts y
  facts = sound_facts y sim.sound_now

  below_eight : (p : ℕ) → p < y.state.config.tasks → p < 8
  below_eight p a = let b = facts.config.T_high in omega arith

  refused_with : (r : Refusal) {e : Event} → EventOutcome y w e (Err r) (after_refusal w) → EventSimulated y w e (refuse r y)
  unfolding refuse
  refused_with r o = record { configuration = after_refusal w; reach = Reachable.further reach refused; sim = sim; outcome = o }

  -- ---- a start
  start_simulated : (p : ℕ) (call : Call) (tag : ℕ) {m : Reply} → sound m.machine ≡ true → StartOutcome y p call tag m
      → EventSimulated y w (starts p call tag) m
  start_simulated p call tag so (start_no_task a) = refused_with NoTask (start_refused p call tag NoTask (other NoTask (λ e. omega arith) (λ e. omega arith)))
  start_simulated p call tag so (start_running a b) = refused_with Running (start_refused p call tag Running (other Running (λ e. omega arith) (λ e. omega arith)))
  start_simulated p call tag so (start_withdrawn a b c) = refused_with Withdrawn (start_refused p call tag Withdrawn (other Withdrawn (λ e. omega arith) (λ e. omega arith)))
  start_simulated p call tag so (start_accepted a b c) =
      let p< = below_eight p a in
      let at : w.position p ≡ no_call = idle_no_call w.heap sim.records (task_of y p) b (w.position p) (sim.matches p) in
      record {
        configuration = after_start w p (first_of call tag);
        reach = Reachable.further reach (begins p (first_of call tag) (is_first call tag) at);
        sim = on_still sim facts (invariant reach).1 p p< (first_of call tag) (started call tag) (λ x u. absurd (first_names call tag x u))
            (first_match w.heap sim.records call tag) (first_takes call tag) so;
        outcome = call_started p call tag (started call tag).line p< at;
      }

  -- ---- a step
  outcome_reach : {p own : ℕ} {o : Output} {v : Configuration} → Outcome w p own o v → Reachable v
  outcome_reach {p} (went_on g l line) = Reachable.further reach (steps_on p refl line)
  outcome_reach {p} (call_ended g e) = Reachable.further reach (ends_set_call p refl e)
  outcome_reach {p} (resize_ended a g line moved) = Reachable.further reach (steps_on p refl line)

  -- a task that does not end runs on, at the line that is said
  module _ (p own : ℕ) (e : Effect) (lt : p < length y.state.task) (ok : NextSound (apply e.write y) p e.next) where
    abbrev after : Reply
    after = accept y p own e

    runs_on : (n : ℕ) → after.out ≡ Ok (Outs.At n) → ((task_of after.machine p).running ≡ true) × ((task_of after.machine p).line ≡ n)
    unfolding accept finish with_own
    runs_on n q = go e.next ok q
      where
        z : Machine
        z = apply e.write y

        go : (x : Next) → NextSound z p x → let m = finish z p (min (own + 1) 65535) x in m.out ≡ Ok (Outs.At n)
            → ((task_of m.machine p).running ≡ true) × ((task_of m.machine p).line ≡ n)
        go (Next.on c) ok q =
            let is = at_hit (refl, rw (apply_task e.write y) lt) ((after_task z p (with_own (min (own + 1) 65535) c)).task_at p) in
            (ap (λ (d : Task). d.running) is ∙ ok.0, ap (λ (d : Task). d.line) is ∙ cc)
        go (Next.ends a l) ok q = let z : ◌≡◌ {A = ℕ} 0 1 = cc in absurd (omega arith)

    stands : (v : Configuration) → Simulates after.machine v.heap v.position → StandsAt after.out (v.position p)
    stands v s = go after.out refl
      where
        d : Task
        d = task_of after.machine p

        go : (o : Output) → after.out ≡ o → StandsAt o (v.position p)
        go (Ok (Outs.At n)) q =
            let r = runs_on n q in
            let l = matches_line v.heap s.records d r.0 (v.position p) (s.matches p) in
            let s1 = r.1 in
            (running_call v.heap s.records d r.0 (v.position p) (s.matches p), omega arith)
        go (Ok (Outs.End a n full)) q = tt
        go (Err n) q = tt

  idle_past_T : (p : ℕ) → y.state.config.tasks ≤ p → TaskFacts y p (task_of y p) → (task_of y p).running ≡ false
  unfolding idle
  idle_past_T p a (runs r f) = let b = f.below_T in absurd (omega arith)
  idle_past_T p a (is_idle e) = ap (λ (c : Task). c.running) e

  step_simulated : (p : ℕ) {m : Reply} → sound m.machine ≡ true → StepOutcome y p m → EventSimulated y w (steps p) m
  step_simulated p so (step_no_task a) =
      refused_with NoTask (step_refused p NoTask (idle_past_T p a (facts.task p)) (other NoTask (λ e. omega arith) (λ e. omega arith)))
  step_simulated p so (step_idle a b) = refused_with Idle (step_refused p Idle b (other Idle (λ e. omega arith) (λ e. omega arith)))
  step_simulated p so (step_unsound a b c) = absurd (tf c (accepts sim facts (invariant reach).1 p b).sound_step)
  step_simulated p so (step_all_held a b c d) = refused_with NoRecord (none_free p b d)
  step_simulated p so (step_accepted a b c d) =
      let task = task_of y p in
      let p< = below_eight p a in
      let st = simulate sim facts (invariant reach).1 p p< task.own ((accepts sim facts (invariant reach).1 p b).effect_of d) so in
      let ok = effect_sound y facts p task b (run_of y facts p b) (step_sound_facts y task c) d in
      record {
        configuration = st.configuration;
        reach = outcome_reach st.outcome;
        sim = st.sim;
        outcome = stepped p p< b st.outcome (stands p task.own (effect y task) (rw sim.eight_tasks p<) ok.next st.configuration st.sim);
      }

  pub event_simulated : (e : Event) → EventSimulated y w e (event y e)
  unfolding event
  event_simulated (starts p call tag) =
      start_simulated p call tag (start_keeps y p call tag sim.sound_now) (start_outcome y p call tag sim.sound_now)
  event_simulated (steps p) = step_simulated p (step_keeps y p sim.sound_now) (step_outcome y p sim.sound_now)
