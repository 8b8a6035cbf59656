-- One event of a schedule, accepted or refused: its output, and the model's configuration before and after it. Assumes nothing.
use Rattle.std.specs.Prelude.{◌≡◌, true, false, ℕ, ◌<◌, Ok, Err}
use Rattle.spec.specs.declared.Refusal.{Refusal}
use Rattle.spec.specs.declared.Refusal.TheVariants.{NoRecord, Spoilt}
use Rattle.spec.specs.declared.Call.{Call}
use Rattle.spec.specs.Outputs.{Output}
use Rattle.spec.specs.declared.Progress.TheVariants as Outs
use Rattle.spec.specs.Machine.{Machine, task_of}
use Rattle.spec.specs.StepRefusals.{all_held}
use Rattle.spec.specs.Entries.{Reply}
use Rattle.spec.specs.Schedule.{Event, starts, steps}
use Rattle.model.specs.Positions.{Position, no_call}
use Rattle.model.specs.Runs.{Configuration, after_refusal, after_start, Reachable}
use Rattle.linear.specs.Matches.{line_at}
use Rattle.linear.specs.Simulates.{Simulates}
use Rattle.linear.specs.StepSimulated.{Outcome}
use Rattle.linear.specs.FirstPositions.{first_of}

-- an output that says a line says that of the task's position
abbrev pub StandsAt : Output → Position → Type 0
StandsAt (Ok (Outs.At n)) l = (¬ (l ≡ no_call)) × (n ≡ line_at l)
StandsAt (Ok (Outs.End a own full)) l = Unit {0}
StandsAt (Err r) l = Unit {0}

-- neither 7 nor 8
abbrev pub Other : Refusal → Type 0
Other r = (¬ (r ≡ NoRecord)) × (¬ (r ≡ Spoilt))

pub data EventOutcome (y : Machine) (w : Configuration) : Event → Output → Configuration → Type 0 where
  start_refused : (p : ℕ) (call : Call) (tag : ℕ) (r : Refusal) → Other r → EventOutcome y w (starts p call tag) (Err r) (after_refusal w)
  call_started : (p : ℕ) (call : Call) (tag n : ℕ) → p < 8 → w.position p ≡ no_call
      → EventOutcome y w (starts p call tag) (Ok (Outs.At n)) (after_start w p (first_of call tag))
  -- the step of a task that does not run
  step_refused : (p : ℕ) (r : Refusal) → (task_of y p).running ≡ false → Other r → EventOutcome y w (steps p) (Err r) (after_refusal w)
  -- of one that finds every record held
  none_free : (p : ℕ) → (task_of y p).running ≡ true → all_held y (task_of y p) ≡ true → EventOutcome y w (steps p) (Err NoRecord) (after_refusal w)
  stepped : (p : ℕ) {o : Output} {v : Configuration} → p < 8 → (task_of y p).running ≡ true → Outcome w p (task_of y p).own o v
      → StandsAt o (v.position p) → EventOutcome y w (steps p) o v

-- what an event leaves
pub record EventSimulated (y : Machine) (w : Configuration) (e : Event) (m : Reply) : Type 0 where
  pub configuration : Configuration
  pub reach : Reachable configuration
  pub sim : Simulates m.machine configuration.heap configuration.position
  pub outcome : EventOutcome y w e m.out configuration
