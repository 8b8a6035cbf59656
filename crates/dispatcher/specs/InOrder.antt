-- Starts, steps and turns keep memory sound and the number of tasks as it was. Assumes nothing.
use Rattle.std.specs.Prelude.{ℕ, ◌<◌, ◌≡◌, refl, true}
use Rattle.std.proofs.Common.{arith, sym, ap, ◌∙◌}
use Rattle.spec.specs.Machine.{Machine, with_chosen, with_state, state_chosen}
use Rattle.spec.specs.Sound.{task_count, sound}
use Rattle.spec.specs.Entries.{step}
use Rattle.spec.specs.Schedule.{Event, steps, event}
use Rattle.turns.specs.Turn.{Turned}
use Rattle.turns.specs.Moves.{Move, enters, turns, move}
use Rattle.laws.specs.Soundness.{sound_facts}
use Rattle.laws.proofs.EntriesKeep.{event_keeps}
use Rattle.laws.specs.LastChosen.{Fixed, event_same, sound_apart}
use Rattle.corollaries.specs.TurnOutcome.{Next, TurnOutcome, spoilt, nothing_runs, goes, step_spoilt, turn_outcome}

-- ---- T stays

pub event_tasks : (y : Machine) (e : Event) → task_count (event y e).machine ≡ task_count y
event_tasks y e = ap (λ (p : Fixed). p.config.tasks) (event_same y e)

-- z is what the step of task k leaves
pub step_tasks : (y : Machine) (k : ℕ) (z : Machine) → (step y k).machine ≡ z → task_count z ≡ task_count y
unfolding event
step_tasks y k z x = sym (ap task_count x) ∙ event_tasks y (steps k)

pub move_tasks : (y : Machine) (m : Move) → task_count (move y m).machine ≡ task_count y
unfolding move with_chosen with_state state_chosen
move_tasks y (enters e) = event_tasks y e
move_tasks y turns = go (turn_outcome y)
  where
    go : {m : Turned} → TurnOutcome y m → task_count m.machine ≡ task_count y
    go (spoilt s) = refl
    go (nothing_runs s n) = refl
    go (step_spoilt k s n f) = refl
    go (goes k o z s n f x only) = step_tasks y k z x

-- ---- memory stays sound

-- with another task as the last one chosen
pub chosen_keeps : (y : Machine) (k : ℕ) → k < task_count y → sound y ≡ true → sound (with_chosen k y) ≡ true
chosen_keeps y k h ok = sound_apart y k h (sound_facts y ok).chosen ∙ ok

pub turned_keeps : (y : Machine) (k : ℕ) (z : Machine) → sound y ≡ true → Next y k → (step y k).machine ≡ z → sound (with_chosen k z) ≡ true
unfolding event
turned_keeps y k z ok n x =
    let t = step_tasks y k z x in
    let b = n.below in
    chosen_keeps z k (omega arith) (rw x at (event_keeps y (steps k) ok))

pub move_keeps : (y : Machine) (m : Move) → sound y ≡ true → sound (move y m).machine ≡ true
unfolding move
move_keeps y (enters e) ok = event_keeps y e ok
move_keeps y turns ok = go (turn_outcome y)
  where
    go : {m : Turned} → TurnOutcome y m → sound m.machine ≡ true
    go (spoilt s) = ok
    go (nothing_runs s n) = ok
    go (step_spoilt k s n f) = ok
    go (goes k o z s n f x only) = turned_keeps y k z ok n x
