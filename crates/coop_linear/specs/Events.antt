-- One event of a schedule, accepted or refused, is one transition of the model, and is not refused with 8. Assumes nothing.
use Prim.Native.Nat.{◌<◌, suc, ℕ}
use Rattle.std.specs.Prelude.{Bool, ◌||◌, false, true, List, ltb, if◌then◌else◌, Ok, Err}
use Rattle.std.proofs.Math.Bool.{not}
use Rattle.std.proofs.Common.{inr, ◌∙◌, subst, le_refl}
use Rattle.std.proofs.Math.Path.{◌≡◌, ap, refl, sym}
use Rattle.std.proofs.Math.Decide.{ℕ_discrete}
use native.Mathlib.Omega.{arith}
use borrow.Author.Tests.{eq-eqb, ltb-true, ne_eqb, not-false, not-true}
use Rattle.std.proofs.Math.Dec.{eqb}
use Rattle.laws.specs.Tests.{At, choose, hit, miss, or_none, tf}
use Rattle.coop_spec.specs.declared.Refusal.{Refusal}
use Rattle.coop_spec.specs.Atomic.{AtomicCall, Operations, changed}
use Rattle.coop_spec.specs.Entries.{Reply, accept, fixing, may_start, refuse, start, started, step, step_running}
use Rattle.coop_spec.specs.History.{History, Occurrence, Started, atomic_call, extended, note, result_of, tell}
use Rattle.coop_spec.specs.Lines.{effect}
use Rattle.coop_spec.specs.Machine.{Machine, operation_of, set_task, task_of, with_state, with_task}
use Rattle.coop_spec.specs.Schedule.{Event, event, starts, steps}
use Rattle.coop_spec.specs.Sound.{sound}
use Rattle.coop_spec.specs.StepRefusals.{all_held, unsound_step}
use Rattle.coop_spec.specs.declared.Call.{Call}
use Rattle.coop_spec.specs.Outputs.{Output}
use Rattle.coop_spec.specs.declared.Task.{Task}
use Rattle.coop_linear.specs.Effects.{Claimed, Effects, Installed, claimed_next, installed_next, no_effects}
use Rattle.coop_model.specs.Functions.{changed_at, changed_other, changed_same}
use Rattle.coop_model.specs.Heap.{op}
use Rattle.coop_model.specs.Invariant.{Invariant, not_running}
use Rattle.coop_linear.specs.EveryLine.{does}
use Rattle.coop_linear.specs.LineOutcomes.{Does}
use Rattle.coop_model.proofs.Linearization.{invariant}
use Rattle.coop_model.specs.Positions.{call_at, no_call, runs}
use Rattle.coop_model.specs.Runs.{Configuration, Reachable, after_end, after_refusal, after_start, moved, refused}
use Rattle.coop_linear.specs.Simulates.{Simulates, fit, sound_now, step_sound}
use Rattle.coop_linear.specs.StartSimulated.{first_call, first_position, start_simulated}
use Rattle.coop_linear.specs.StepOutcome.{Stepped, call_ended, went_on}
use Rattle.coop_linear.specs.StepSimulated.{step_simulated}
use Rattle.coop_linear.specs.TaskImages.{idle_image, runs_image}
use Rattle.coop_laws.specs.Fixed.{Agrees}
use Rattle.coop_laws.specs.RefusalNumbers.{apart}
use Rattle.coop_spec.specs.declared.Progress.TheVariants as Outs
use Rattle.coop_spec.specs.declared.Refusal.TheVariants.{NoTask, NotStarted, Idle, NoVersion, Spoilt}

-- ---- before event n: what is told so far, and the configuration of the model that the words simulate

pub record Before (T : Operations) (n : ℕ) (s : History) : Type 0 where
  pub configuration : Configuration
  pub reach : Reachable T configuration
  pub clock : configuration.clock ≡ n
  pub sim : Simulates T s.machine configuration.heap configuration.position
  pub start≡ : (q : ℕ) → (s.last q).start ≡ configuration.start q
  pub call≡ : (q : ℕ) (c : AtomicCall) → call_at (configuration.position q) ≡ runs c → (s.last q).call ≡ c
  pub ended : s.ended ≡ configuration.ended
  pub claimed : Claimed configuration.heap s.claimed
  pub installed : Installed configuration.heap s.installed

runs_same : {c d : AtomicCall} → runs c ≡ runs d → c ≡ d
runs_same e = cc

-- ---- one event

abbrev pub After : Operations → ℕ → History → Event → Reply → Type 0
After T n s e m = Before T (suc n) (extended n s e m) × (¬ (m.out ≡ Err Spoilt))

module _ {T : Operations} {n : ℕ} {s : History} (b : Before T n s) where
  abbrev y : Machine
  y = s.machine

  abbrev w : Configuration
  w = b.configuration

  inv : (L : List Occurrence) × Invariant T b.configuration L
  inv = invariant b.reach

  one_version : (v u m : ℕ) → b.configuration.heap.op_at v ≡ op m → b.configuration.heap.op_at u ≡ op m → v ≡ u
  one_version = inv.1.heap.one_version

  -- ---- refusals

  same_effects : Effects s.machine s.machine b.configuration.heap b.configuration.heap
  same_effects = no_effects (λ v m e. e) (le_refl _) refl refl

  note_refused : (e : Event) (r : Refusal) (q : ℕ) → note n s.last e (Err r) q ≡ s.last q
  unfolding note
  note_refused (starts p call i k) r q = refl
  note_refused (steps p) r q = refl

  tell_refused : (e : Event) (r : Refusal) → tell n s.last s.ended e (Err r) s.machine ≡ s.ended
  unfolding tell
  tell_refused (starts p call i k) r = refl
  tell_refused (steps p) r = refl

  refused_event : (e : Event) (r : Refusal) → ¬ (r ≡ Spoilt) → After T n s e (refuse r s.machine)
  unfolding refuse extended
  refused_event e r d = (
    record {
      configuration = after_refusal b.configuration;
      reach = Reachable.further b.reach refused;
      clock = ap suc b.clock;
      sim = b.sim;
      start≡ = λ q. ap (λ (x : Started). x.start) (note_refused e r q) ∙ b.start≡ q;
      call≡ = λ q c f. ap (λ (x : Started). x.call) (note_refused e r q) ∙ b.call≡ q c f;
      ended = tell_refused e r ∙ b.ended;
      claimed = claimed_next same_effects one_version s.claimed b.claimed;
      installed = installed_next same_effects one_version s.installed b.installed;
    },
    λ f. d (cc),
  )

  -- ---- an accepted start

  module _ (p : ℕ) (call : Call) (i k : ℕ) (idle≡ : (task_of s.machine p).running ≡ false) (below : p < s.machine.state.tasks)
      (ok : may_start s.machine call i k ≡ true) where
    at_rest : b.configuration.position p ≡ no_call
    at_rest =
        let m = b.sim.images p in
        idle_image T b.sim.slot m.0 (b.configuration.position p) (sym (ap (λ (c : Task). c.running) m.1) ∙ idle≡)

    started_next : Agrees T (set_task p (started call i k) (fixing s.machine call i k))
        → After T n s (starts p call i k)
        (record { out = Ok (Outs.At (started call i k).line); machine = set_task p (started call i k) (fixing s.machine call i k) })
    unfolding extended note tell set_task with_task with_state operation_of
    started_next agrees =
        let r = start_simulated b.sim p at_rest below call i k ok agrees in (
          record {
            configuration = after_start b.configuration p (first_position call i k);
            reach = Reachable.further b.reach r.to;
            clock = ap suc b.clock;
            sim = r.sim;
            start≡ = λ q. started_at q (ℕ_discrete q p);
            call≡ = λ q c f. called q c f (ℕ_discrete q p);
            ended = b.ended;
            claimed = claimed_next r.effects one_version s.claimed b.claimed;
            installed = installed_next r.effects one_version s.installed b.installed;
          },
          λ f. let z : ◌≡◌ {A = ℕ} 0 1 = cc in omega arith,
        )
      where
        started_at : (q : ℕ) → Dec (q ≡ p)
            → (if eqb q p then record { call = atomic_call call i k; start = n } else s.last q).start ≡ changed b.configuration.start p
            b.configuration.clock q
        started_at q (yes e) = rw (eq-eqb q p e) (sym b.clock ∙ sym (ap (changed b.configuration.start p b.configuration.clock) e ∙ changed_same
            b.configuration.start p b.configuration.clock))
        started_at q (no d) = rw (ne_eqb q p d) (b.start≡ q ∙ sym (changed_other b.configuration.start p b.configuration.clock q d))

        called : (q : ℕ) (c : AtomicCall) → call_at (changed b.configuration.position p (first_position call i k) q) ≡ runs c → Dec (q ≡ p)
            → (if eqb q p then record { call = atomic_call call i k; start = n } else s.last q).call ≡ c
        called q c f (yes e) =
            rw (eq-eqb q p e) (runs_same (sym (first_call call i k) ∙ sym (ap call_at
            (ap (changed b.configuration.position p (first_position call i k)) e ∙ changed_same b.configuration.position p
            (first_position call i k))) ∙ f))
        called q c f (no d) =
            rw (ne_eqb q p d) (b.call≡ q c (sym (ap call_at (changed_other b.configuration.position p (first_position call i k) q d)) ∙ f))

  -- ---- an accepted step

  module _ (p : ℕ) (m : Reply) where
    stepped_next : Stepped T s.machine b.configuration p m → After T n s (steps p) m
    unfolding extended note tell
    stepped_next (went_on line g l' out to same sim effects) = (
      record {
        configuration = moved b.configuration p g l';
        reach = Reachable.further b.reach to;
        clock = ap suc b.clock;
        sim = sim;
        start≡ = b.start≡;
        call≡ = λ q c f. called q c f (changed_at b.configuration.position p l' q);
        ended = ap (λ (o : Output). tell n s.last s.ended (steps p) o m.machine) out ∙ b.ended;
        claimed = claimed_next effects (invariant (Reachable.further b.reach to)).1.heap.one_version s.claimed b.claimed;
        installed = installed_next effects one_version s.installed b.installed;
      },
      λ f. let z : ◌≡◌ {A = ℕ} 0 1 = cc in omega arith,
    )
      where
        called : (q : ℕ) (c : AtomicCall) → call_at (changed b.configuration.position p l' q) ≡ runs c
            → At (q ≡ p) l' (b.configuration.position q) (changed b.configuration.position p l' q) → (s.last q).call ≡ c
        called q c f (hit e a) = b.call≡ q c (ap (λ (x : ℕ). call_at (b.configuration.position x)) e ∙ sym same ∙ sym (ap call_at a) ∙ f)
        called q c f (miss d a) = b.call≡ q c (sym (ap call_at a) ∙ f)
    stepped_next (call_ended a own g c out runs≡ to sim effects) = (
      record {
        configuration = after_end b.configuration p g c (result_of m.machine a);
        reach = Reachable.further b.reach to;
        clock = ap suc b.clock;
        sim = sim;
        start≡ = b.start≡;
        call≡ = λ q d f. called q d f (changed_at b.configuration.position p no_call q);
        ended = ap (λ (o : Output). tell n s.last s.ended (steps p) o m.machine) out ∙ told;
        claimed = claimed_next effects (invariant (Reachable.further b.reach to)).1.heap.one_version s.claimed b.claimed;
        installed = installed_next effects one_version s.installed b.installed;
      },
      λ f. let z : ◌≡◌ {A = ℕ} 0 1 = cc in omega arith,
    )
      where
        called : (q : ℕ) (d : AtomicCall) → call_at (changed b.configuration.position p no_call q) ≡ runs d
            → At (q ≡ p) no_call (b.configuration.position q) (changed b.configuration.position p no_call q) → (s.last q).call ≡ d
        called q d f (hit e a) = absurd (not_running (sym (ap call_at a) ∙ f))
        called q d f (miss e a) = b.call≡ q d (sym (ap call_at a) ∙ f)

        told : tell n s.last s.ended (steps p) (Ok (Outs.End a own)) m.machine ≡ (after_end b.configuration p g c (result_of m.machine a)).ended
        told = rw (b.start≡ p, b.call≡ p c runs≡, b.ended, b.clock)

  -- what the line of a running task does
  line_does : (p : ℕ) → (task_of s.machine p).running ≡ true
      → Does b.sim.rep (b.sim.images p).0 (b.configuration.position p) (effect s.machine (task_of s.machine p))
  line_does p r =
      let m = b.sim.images p in
      let i = inv.1 in
      let c = runs_image T b.sim.slot m.0 (b.configuration.position p) (sym (ap (λ (c : Task). c.running) m.1) ∙ r) in
      let f = fit b.sim i p (b.configuration.position p) c.1 (b.sim.shapes p) (λ v z. inr (p, z)) (i.task p) in
      subst (λ (t : Task). Does b.sim.rep m.0 (b.configuration.position p) (effect s.machine t)) (sym m.1)
      (does b.sim.rep m.0 (b.configuration.position p) f)

  -- a step is refused, and not with 8, or its line is done
  pub data StepView (p : ℕ) : Reply → Type 0 where
    step_refused : (r : Refusal) → ¬ (r ≡ Spoilt) → StepView p (refuse r s.machine)
    line_done : (task_of s.machine p).running ≡ true → all_held s.machine (task_of s.machine p) ≡ false
        → Does b.sim.rep (b.sim.images p).0 (b.configuration.position p) (effect s.machine (task_of s.machine p))
        → StepView p (accept s.machine p (task_of s.machine p).own (effect s.machine (task_of s.machine p)))

  never : (x : Bool) → x ≡ true → not x ≡ true → ⊥
  never x e f = tf e (not-true x f)

  pub step_view : (p : ℕ) → StepView p (step s.machine p)
  unfolding step step_running
  step_view p =
      choose (StepView p) (not (sound s.machine)) _ _ (λ t. absurd (never (sound s.machine) (sound_now b.sim inv.1) t))
      (λ t. choose (StepView p) (not (ltb p s.machine.state.tasks)) _ _ (λ u. step_refused NoTask (apart NoTask Spoilt (λ z. omega arith)))
      (λ u. choose (StepView p) (not (task_of s.machine p).running) _ _ (λ v. step_refused Idle (apart Idle Spoilt (λ z. omega arith)))
      (λ v. choose (StepView p) (unsound_step s.machine (task_of s.machine p)) _ _ (λ x. absurd (tf x (step_sound b.sim inv.1 p)))
      (λ x. choose (StepView p) (all_held s.machine (task_of s.machine p)) _ _ (λ h. step_refused NoVersion (apart NoVersion Spoilt (λ z. omega arith)))
      (λ h. let r = not-false (task_of s.machine p).running v in line_done r h (line_does p r))))))

  step_next : (p : ℕ) → After T n s (steps p) (step s.machine p)
  step_next p = go (step_view p)
    where
      go : {m : Reply} → StepView p m → After T n s (steps p) m
      go (step_refused r d) = refused_event (steps p) r d
      go (line_done r free d) =
          let m = b.sim.images p in
          let c = runs_image T b.sim.slot m.0 (b.configuration.position p) (sym (ap (λ (c : Task). c.running) m.1) ∙ r) in
          stepped_next p _ (
          step_simulated b.sim inv.1 p c.0 c.1 m.0 (task_of s.machine p).own (b.configuration.position p) refl
          (effect s.machine (task_of s.machine p)) d
          (subst (λ (t : Task). all_held s.machine t ≡ false) m.1 free)
          )

  -- ---- every event

  start_next : (p : ℕ) (call : Call) (i k : ℕ) → Agrees T (start s.machine p call i k).machine
      → After T n s (starts p call i k) (start s.machine p call i k)
  unfolding start
  start_next p call i k =
      choose P (not (sound s.machine)) _ _ (λ t. absurd (never (sound s.machine) (sound_now b.sim inv.1) t))
      (λ t. choose P (not (ltb p s.machine.state.tasks)) _ _ (λ u. λ a. refused_event (starts p call i k) NoTask (apart NoTask Spoilt (λ z. omega arith)))
      (λ u. choose P ((task_of s.machine p).running || not (may_start s.machine call i k)) _ _
      (λ v. λ a. refused_event (starts p call i k) NotStarted (apart NotStarted Spoilt (λ z. omega arith)))
      (λ v. let q = or_none (task_of s.machine p).running (not (may_start s.machine call i k)) v in started_next p call i k q.0
      (ltb-true p s.machine.state.tasks (not-false (ltb p s.machine.state.tasks) u)) (not-false (may_start s.machine call i k) q.1))))
    where
      P : Reply → Type 0
      P m = Agrees T m.machine → After T n s (starts p call i k) m

  pub event_next : (e : Event) → Agrees T (event s.machine e).machine → After T n s e (event s.machine e)
  unfolding event
  event_next (starts p call i k) a = start_next p call i k a
  event_next (steps p) a = step_next p
