-- What rests on statements of specs/EntriesKeep.antt that a must-fail edit makes false: theorems moved from there as they stood. Assumes nothing.
use Rattle.std.specs.Prelude.{ℕ, ◌≡◌, List, [], ◌∷◌, true}
use Rattle.spec.specs.Machine.{Machine, task_of}
use Rattle.spec.specs.Sound.{sound}
use Rattle.spec.specs.Lines.{effect}
use Rattle.spec.specs.Entries.{refuse, Reply, step}
use Rattle.spec.specs.Schedule.{event, Event, starts, steps, run}
use Rattle.laws.specs.SoundFacts.{SoundFacts}
use Rattle.laws.specs.Soundness.{sound_facts, facts_sound, run_of}
use Rattle.laws.specs.StepRefusals.{step_sound_facts}
use Rattle.laws.proofs.LinesKeep.{effect_sound}
use Rattle.laws.specs.EntriesKeep.{StepOutcome, accept_keeps, start_keeps, step_outcome, step_accepted, step_all_held, step_idle, step_no_task}
use Rattle.laws.specs.EntriesKeep.{step_unsound}

pub step_facts : (y : Machine) → SoundFacts y → (k : ℕ) {m : Reply} → StepOutcome y k m → SoundFacts m.machine
unfolding refuse
step_facts y f k (step_no_task a) = f
step_facts y f k (step_idle a b) = f
step_facts y f k (step_unsound a b c) = f
step_facts y f k (step_all_held a b c d) = f
step_facts y f k (step_accepted a b c d) =
    let t = task_of y k in
    accept_keeps y f k t.own (effect y t) (effect_sound y f k t b (run_of y f k b) (step_sound_facts y t c) d)

pub step_keeps : (y : Machine) (k : ℕ) → sound y ≡ true → sound (step y k).machine ≡ true
step_keeps y k e = facts_sound (step y k).machine (step_facts y (sound_facts y e) k (step_outcome y k e))

pub event_keeps : (y : Machine) (v : Event) → sound y ≡ true → sound (event y v).machine ≡ true
unfolding event
event_keeps y (starts k call tag) e = start_keeps y k call tag e
event_keeps y (steps k) e = step_keeps y k e

pub run_keeps : (y : Machine) (vs : List Event) → sound y ≡ true → sound (run y vs).machine ≡ true
unfolding run
run_keeps y [] e = e
run_keeps y (v ∷ vs) e = run_keeps (event y v).machine vs (event_keeps y v e)
