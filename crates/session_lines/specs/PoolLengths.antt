-- A start or a step leaves both pools as long as they were, in sound memory and in spoilt memory: so a session's part of a lent
-- pool stays the part that it was opened with. Assumes nothing.
use Rattle.std.specs.Prelude.{◌≡◌, refl, true, ℕ, length}
use Rattle.std.proofs.Common.{ap, ◌∙◌, ⊎_elim}
use Rattle.spec.specs.declared.Refusal.{Refusal}
use Rattle.spec.specs.declared.Refusal.TheVariants.{NoTask, Running, Idle, NoRecord, Spoilt, Withdrawn}
use Rattle.spec.specs.declared.Call.{Call}
use Rattle.spec.specs.declared.Task.{Task}
use Rattle.spec.specs.Machine.{Machine, set_task, idle, with_own, task_of}
use Rattle.spec.specs.Words.{apply}
use Rattle.spec.specs.Sound.{sound}
use Rattle.spec.specs.Lines.{Next, on, ends, effect}
use Rattle.spec.specs.Entries.{Reply, refuse, start, started, step, finish, accept}
use Rattle.spec.specs.Schedule.{Event, starts, steps, event}
use Rattle.laws.specs.Tests.{bool?}
use Rattle.laws.specs.Soundness.{sound_facts, run_of}
use Rattle.laws.specs.AfterWrites.{after_task}
use Rattle.laws.specs.StepRefusals.{step_sound_facts}
use Rattle.laws.specs.WritesKeep.{write_keeps}
use Rattle.laws.proofs.LinesKeep.{effect_sound}
use Rattle.laws.specs.EntriesKeep.{StepOutcome, step_no_task, step_idle, step_unsound, step_all_held, step_accepted, step_outcome, StartOutcome}
use Rattle.laws.specs.EntriesKeep.{start_no_task, start_running, start_withdrawn, start_accepted, start_outcome}

-- what is left is as long as what there was
pub record SameLengths (y : Machine) (r : Reply) : Type 0 where
  pub nodes : length r.machine.nodes ≡ length y.nodes
  pub buckets : length r.machine.buckets ≡ length y.buckets

refused_lengths : (n : Refusal) (y : Machine) → SameLengths y (refuse n y)
unfolding refuse
refused_lengths n y = record { nodes = refl; buckets = refl }

-- a task's record is no part of a pool
task_lengths : (y z : Machine) (k : ℕ) (c : Task) → length z.nodes ≡ length y.nodes → length z.buckets ≡ length y.buckets
    → (length (set_task k c z).nodes ≡ length y.nodes) × (length (set_task k c z).buckets ≡ length y.buckets)
task_lengths y z k c p q =
    let a = after_task z k c in
    (ap length a.nodes≡ ∙ p, ap length a.buckets≡ ∙ q)

finish_lengths : (y z : Machine) (k own : ℕ) (n : Next) → length z.nodes ≡ length y.nodes → length z.buckets ≡ length y.buckets
    → SameLengths y (finish z k own n)
unfolding finish
finish_lengths y z k own (on c) p q =
    let h = task_lengths y z k (with_own own c) p q in
    record { nodes = h.0; buckets = h.1 }
finish_lengths y z k own (ends a l) p q =
    let h = task_lengths y z k idle p q in
    record { nodes = h.0; buckets = h.1 }

stepped_lengths : (y : Machine) (k : ℕ) → sound y ≡ true → {r : Reply} → StepOutcome y k r → SameLengths y r
unfolding accept
stepped_lengths y k s (step_no_task a) = refused_lengths NoTask y
stepped_lengths y k s (step_idle a b) = refused_lengths Idle y
stepped_lengths y k s (step_unsound a b c) = refused_lengths Spoilt y
stepped_lengths y k s (step_all_held a b c d) = refused_lengths NoRecord y
stepped_lengths y k s (step_accepted a b c d) =
    let f = sound_facts y s in
    let t = task_of y k in
    let w = (effect y t).write in
    let z = (write_keeps y f w (effect_sound y f k t b (run_of y f k b) (step_sound_facts y t c) d).write_sound).same in
    finish_lengths y (apply w y) k _ (effect y t).next z.nodes_length≡ z.buckets_length≡

step_lengths : (y : Machine) (k : ℕ) → SameLengths y (step y k)
unfolding step
step_lengths y k = ⊎_elim (λ s. stepped_lengths y k s (step_outcome y k s)) (λ s. rw s (refused_lengths Spoilt y)) (bool? (sound y))

started_lengths : (y : Machine) (k : ℕ) (call : Call) (tag : ℕ) {r : Reply} → StartOutcome y k call tag r → SameLengths y r
started_lengths y k call tag (start_no_task a) = refused_lengths NoTask y
started_lengths y k call tag (start_running a b) = refused_lengths Running y
started_lengths y k call tag (start_withdrawn a b c) = refused_lengths Withdrawn y
started_lengths y k call tag (start_accepted a b c) =
    let h = task_lengths y y k (started call tag) refl refl in
    record { nodes = h.0; buckets = h.1 }

start_lengths : (y : Machine) (k : ℕ) (call : Call) (tag : ℕ) → SameLengths y (start y k call tag)
unfolding start
start_lengths y k call tag =
    ⊎_elim (λ s. started_lengths y k call tag (start_outcome y k call tag s)) (λ s. rw s (refused_lengths Spoilt y)) (bool? (sound y))

pub event_lengths : (y : Machine) (e : Event) → SameLengths y (event y e)
unfolding event
event_lengths y (starts k call tag) = start_lengths y k call tag
event_lengths y (steps k) = step_lengths y k
