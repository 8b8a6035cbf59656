-- From an opening on no start, step or turn is refused with 8, and a turn with nothing but 7: memory stays sound, and the step of the task
-- that is next would be one of the schedule that the run stands for. Assumes nothing.
use Rattle.std.specs.Prelude.{ℕ, suc, ◌≡◌, Err}
use Rattle.std.proofs.Common.{ap, ◌∙◌}
use mathlib.Core.List.{List, [], ◌∷◌}
use Rattle.spec.specs.declared.Refusal.TheVariants.{Spoilt}
use Rattle.spec.specs.Machine.{Machine, with_chosen, with_state, state_chosen}
use Rattle.spec.specs.Entries.{Reply}
use Rattle.spec.specs.Schedule.{Event, steps, event}
use Rattle.spec.specs.History.{Ended, Started}
use Rattle.turns.specs.Turn.{Turned}
use Rattle.turns.specs.Moves.{Move, enters, turns, turned, move, moves}
use Rattle.turns.specs.Promises.{NoEightRun}
use Rattle.laws.specs.Tests.{tf}
use Rattle.linear.specs.Events.{Before}
use Rattle.linear.proofs.Events.{event_next}
use Rattle.corollaries.specs.TurnOutcome.{TurnOutcome, spoilt, nothing_runs, goes, step_spoilt, turn_outcome}
use Rattle.dispatcher.specs.Erasure.{Beside, same_event, beside_event, beside_turn}

-- the machine stands in some schedule from an opening
pub record InSchedule (y : Machine) : Type 0 where
  pub place : ℕ
  pub last : ℕ → Started
  pub ended : List Ended
  pub before : Before place last ended y

module _ (l : ℕ) where
  -- so does what a start or a step leaves, and it is not refused with 8
  goes_on : (y : Machine) → Beside l y → InSchedule (with_chosen l y) → (e : Event)
      → InSchedule (with_chosen l (event y e).machine) × (¬ ((event y e).out ≡ Err Spoilt))
  goes_on y b s e =
      let a = event_next s.place s.last s.ended (with_chosen l y) s.before e in
      let same = same_event l y b e in (
        record { place = suc s.place; last = _; ended = _; before = rw (ap (λ (r : Reply). r.machine) same) at a.0 },
        λ eight. a.1 (ap (λ (r : Reply). r.out) same ∙ eight),
      )

  pub no_eight : (ms : List Move) (y : Machine) → Beside l y → InSchedule (with_chosen l y) → NoEightRun (moves y ms).says
  unfolding moves move event with_chosen with_state state_chosen
  no_eight [] y b s = tt
  no_eight (enters e ∷ ms) y b s =
      let f = goes_on y b s e in
      (f.1, no_eight ms (event y e).machine (beside_event l y b e) f.0)
  no_eight (turns ∷ ms) y b s = go (turn_outcome y) (no_eight ms)
    where
      go : {m : Turned} → TurnOutcome y m → ((z : Machine) → Beside l z → InSchedule (with_chosen l z) → NoEightRun (moves z ms).says)
          → NoEightRun (turned m.says ∷ (moves m.machine ms).says)
      go (spoilt u) ih = absurd (tf b.ok u)
      go (nothing_runs u n) ih = ih y b s
      go (step_spoilt k u n f) ih = absurd ((goes_on y b s (steps k)).1 f)
      go (goes k o z u n f x only) ih =
          let g = goes_on y b s (steps k) in
          (rw (← f) g.1, ih (with_chosen k z) (beside_turn l y b k z n x) (rw x at g.0))
