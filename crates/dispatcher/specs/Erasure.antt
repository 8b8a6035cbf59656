-- A run stands for a schedule: a turn that names a task is its step, also a refused one, and moves beside it only the last one chosen, at
-- which no start or step looks; any other turn changes nothing. Assumes nothing.
use Rattle.std.specs.Prelude.{ℕ, ◌<◌, ◌≡◌, true}
use native.Mathlib.Omega.{arith}
use Rattle.std.proofs.Math.Path.{refl}
use mathlib.Core.List.{List, [], ◌∷◌}
use Rattle.spec.specs.declared.Refusal.TheVariants.{Spoilt}
use Rattle.spec.specs.Machine.{Machine, with_chosen, with_state, state_chosen}
use Rattle.spec.specs.Sound.{task_count, sound}
use Rattle.spec.specs.Entries.{step}
use Rattle.spec.specs.Schedule.{Ran, Event, steps, event, run}
use Rattle.turns.specs.Turn.{Turned}
use Rattle.turns.specs.Moves.{Move, enters, turns, turned, move, Run, moves, stands_for, outputs}
use Rattle.laws.specs.Soundness.{sound_facts}
use Rattle.laws.proofs.EntriesKeep.{event_keeps}
use Rattle.laws.specs.LastChosen.{again, event_apart}
use Rattle.corollaries.specs.Unchanged.{refused_step_changes_nothing}
use Rattle.corollaries.specs.TurnOutcome.{Next, TurnOutcome, spoilt, nothing_runs, goes, step_spoilt, turn_outcome}
use Rattle.dispatcher.specs.InOrder.{event_tasks, step_tasks, turned_keeps}

-- the schedule's machine has l as the last one chosen, and is the run's machine y but for that
pub record Beside (l : ℕ) (y : Machine) : Type 0 where
  pub ok : sound y ≡ true
  pub below : l < task_count y

module _ (l : ℕ) where
  -- the schedule does with its machine what the run does with y
  pub same_event : (y : Machine) → Beside l y → (e : Event) → event (with_chosen l y) e ≡ again l (event y e)
  same_event y b e = event_apart y l b.below (sound_facts y b.ok).chosen e

  -- the step that a turn stood for
  pub same_step : (y : Machine) → Beside l y → (k : ℕ) → step (with_chosen l y) k ≡ again l (step y k)
  unfolding event
  same_step y b k = same_event y b (steps k)

  pub beside_event : (y : Machine) → Beside l y → (e : Event) → Beside l (event y e).machine
  beside_event y b e = let t = event_tasks y e in let h = b.below in record { ok = event_keeps y e b.ok; below = omega arith }

  -- what a run leaves stands for what a schedule leaves
  abbrev stood_for : Run → Ran
  stood_for r = record { outs = outputs r.says; machine = with_chosen l r.machine }

  abbrev Erased : List Move → Machine → Type 0
  Erased ms y = run (with_chosen l y) (stands_for ms (moves y ms).says) ≡ stood_for (moves y ms)

  pub beside_turn : (y : Machine) → Beside l y → (k : ℕ) (z : Machine) → Next y k → (step y k).machine ≡ z → Beside l (with_chosen k z)
  unfolding with_chosen with_state state_chosen
  beside_turn y b k z n x = let t = step_tasks y k z x in let h = b.below in record { ok = turned_keeps y k z b.ok n x; below = omega arith }

  pub erased : (ms : List Move) (y : Machine) → Beside l y → Erased ms y
  unfolding run moves move stands_for outputs event with_chosen with_state state_chosen
  erased [] y b = refl
  erased (enters e ∷ ms) y b = rw (same_event y b e, erased ms (event y e).machine (beside_event y b e))
  erased (turns ∷ ms) y b = go (turn_outcome y) (erased ms)
    where
      go : {m : Turned} → TurnOutcome y m → ((z : Machine) → Beside l z → Erased ms z)
          → run (with_chosen l y) (stands_for (turns ∷ ms) (turned m.says ∷ (moves m.machine ms).says))
          ≡ stood_for (record { says = turned m.says ∷ (moves m.machine ms).says; machine = (moves m.machine ms).machine })
      go (spoilt s) ih = ih y b
      go (nothing_runs s n) ih = ih y b
      go (step_spoilt k s n f) ih = rw (same_step y b k, f, refused_step_changes_nothing y k Spoilt f, ih y b)
      go (goes k o z s n f x only) ih = rw (same_step y b k, f, x, ih (with_chosen k z) (beside_turn y b k z n x))
