-- What is promised of every run of starts, steps and turns, as types: fair turns, a schedule that it stands for, demand 3, never 8. Proved
-- in the crate dispatcher. Assumes nothing.
use Rattle.std.specs.Prelude.{ℕ, suc, ◌≤◌, ◌-◌, ◌≡◌, true, List, [], ◌∷◌, ◌++◌, length, drop, Ok, Err}
use Rattle.spec.specs.declared.Refusal.TheVariants.{Spoilt}
use Rattle.spec.specs.declared.Config.{Config}
use Rattle.spec.specs.Outputs.{Output}
use Rattle.spec.specs.Machine.{Machine, with_chosen, task_of}
use Rattle.spec.specs.Entries.{list}
use Rattle.spec.specs.Schedule.{schedule}
use Rattle.spec.specs.History.{Ended, history}
use Rattle.spec.specs.Linearizable.{Order, Timely, Answers, after}
use Rattle.turns.specs.declared.Turn.{Turn}
use Rattle.turns.specs.declared.Turn.TheVariants.{Idle, Of, Refused}
use Rattle.turns.specs.Turn.{turn}
use Rattle.turns.specs.Moves.{Move, enters, turns, Said, entered, turned, move, moves, run_of, stands_for, outputs}

-- ---- fair turns

-- the turn went to task k
abbrev pub To : ℕ → Turn → Type 0
To k a = (o : Output) × (a ≡ Of k o)

-- in a run of these moves from y task k is idle at no turn, and no turn goes to it
abbrev pub Waits : ℕ → Machine → List Move → Type 0
Waits k y [] = Unit {0}
Waits k y (enters e ∷ ms) = Waits k (move y (enters e)).machine ms
Waits k y (turns ∷ ms) = ((task_of y k).running ≡ true) × (¬ To k (turn y).says) × Waits k (turn y).machine ms

-- how many turns go to a task
unfoldable pub turns_given : List Said → ℕ
turns_given [] = 0
turns_given (entered o ∷ ss) = turns_given ss
turns_given (turned (Of k o) ∷ ss) = suc (turns_given ss)
turns_given (turned Idle ∷ ss) = turns_given ss
turns_given (turned (Refused r) ∷ ss) = turns_given ss

-- "at most T − 1 turns go to others between two successive turns of a task that is idle at no turn between them": `before` are the moves up
-- to one turn of task k, `between` those from there to its next
abbrev pub Fair : Config → List ℕ → List ℕ → Type 0
Fair g ns bs = (k : ℕ) (before between : List Move)
    → let y = (run_of g ns bs before).machine in
    let z = (turn y).machine in
    To k (turn y).says → Waits k z between → To k (turn (moves z between).machine).says
    → turns_given (moves z between).says ≤ g.tasks - 1

-- ---- "Leaving aside the word that keeps the last one chosen, each such run, a turn standing for its task's step and idle turns left out, is
-- a schedule of the first paper": it gives the run's outputs and leaves the run's state and pools, but for that word, which no schedule moves

module _ (g : Config) (ns bs : List ℕ) (ms : List Move) where
  abbrev pub IsSchedule : Type 0
  IsSchedule =
      schedule g ns bs (stands_for ms (run_of g ns bs ms).says)
      ≡ record { outs = outputs (run_of g ns bs ms).says; machine = with_chosen (g.tasks - 1) (run_of g ns bs ms).machine }

  -- "so the answers still fit one plain set": demand 3 of the run itself
  pub record LinearizableRun : Type 0 where
    pub order : List Ended
    pub once : Order (history (stands_for ms (run_of g ns bs ms).says) (outputs (run_of g ns bs ms).says)) order
    pub timely : Timely order
    pub answers : Answers [] order
    pub listed : (w : List ℕ) → length w ≡ 64
        → list (run_of g ns bs ms).machine w
        ≡ record { says = Ok (length (after [] order)); words = after [] order ++ drop (length (after [] order)) w }

-- "Never from an opening onward": no start, step or turn is refused with 8, and a turn with nothing but 7
abbrev pub NoEightRun : List Said → Type 0
NoEightRun [] = Unit {0}
NoEightRun (entered o ∷ ss) = (¬ (o ≡ Err Spoilt)) × NoEightRun ss
NoEightRun (turned (Of k o) ∷ ss) = (¬ (o ≡ Err Spoilt)) × NoEightRun ss
NoEightRun (turned Idle ∷ ss) = NoEightRun ss
NoEightRun (turned (Refused r) ∷ ss) = ⊥
