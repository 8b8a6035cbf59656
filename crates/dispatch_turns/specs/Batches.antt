-- Starts, steps and turns, some of them many in one call, in any order: a run of single moves (`batches_are_moves`). So it is a schedule of paper 01, its
-- answers fit one plain set, nothing in it is refused with 8; and `fair` (crate dispatcher) holds of it, since it speaks of any two turns of a run of
-- single moves. Assumes nothing.
use Rattle.std.specs.Prelude.{ℕ, ◌≡◌, refl, List, [], ◌∷◌, ◌++◌, map, length, replicate}
use Rattle.std.proofs.Common.{ap, ◌∙◌}
use Rattle.spec.specs.declared.Config.{Config}
use Rattle.spec.specs.Machine.{Machine}
use Rattle.spec.specs.Entries.{opening}
use Rattle.spec.specs.Schedule.{Event, event, run}
use Rattle.turns.specs.Moves.{Move, enters, turns, entered, turned, Run, move, moves, run_of}
use Rattle.turns.specs.Promises.{IsSchedule, LinearizableRun, NoEightRun}
use Rattle.dispatcher.specs.Theorems.{in_two_parts, is_schedule, linearizable_run, never_8_run}
use Rattle.turns.specs.Turns.{turns_of, turns_are_moves}

pub data Batch : Type 0 where
  single : Move → Batch
  -- `yard_run`
  events : List Event → Batch
  -- at most so many turns, up to the first that names no task: `yard_turns`
  many : ℕ → Batch

-- what it says and leaves, and the single moves that it is
unfoldable pub batch : Machine → Batch → Run
batch y (single m) = let n = move y m in record { says = n.says ∷ []; machine = n.machine }
batch y (events es) = let r = run y es in record { says = map entered r.outs; machine = r.machine }
batch y (many n) = let r = turns_of n y in record { says = map turned r.says; machine = r.machine }

unfoldable pub moves_in : Machine → Batch → List Move
moves_in y (single m) = m ∷ []
moves_in y (events es) = map enters es
moves_in y (many n) = replicate (length (turns_of n y).says) turns

-- one after the other, each given what the one before left
unfoldable pub batches : Machine → List Batch → Run
batches y [] = record { says = []; machine = y }
batches y (b ∷ bs) =
    let r = batch y b in
    let q = batches r.machine bs in
    record { says = r.says ++ q.says; machine = q.machine }

unfoldable pub moves_of : Machine → List Batch → List Move
moves_of y [] = []
moves_of y (b ∷ bs) = moves_in y b ++ moves_of (batch y b).machine bs

events_are_moves : (es : List Event) (y : Machine) → moves y (map enters es) ≡ record { says = map entered (run y es).outs; machine = (run y es).machine }
unfolding moves move run
events_are_moves [] y = refl
events_are_moves (e ∷ es) y =
    ap (λ (r : Run). record { says = entered (event y e).out ∷ r.says; machine = r.machine }) (events_are_moves es (event y e).machine)

batch_is_moves : (y : Machine) (b : Batch) → moves y (moves_in y b) ≡ batch y b
unfolding batch moves_in moves
batch_is_moves y (single m) = refl
batch_is_moves y (events es) = events_are_moves es y
batch_is_moves y (many n) = turns_are_moves n y

pub batches_are_moves : (bs : List Batch) (y : Machine) → moves y (moves_of y bs) ≡ batches y bs
unfolding batches moves_of moves
batches_are_moves [] y = refl
batches_are_moves (b ∷ bs) y =
    let r = batch y b in
    let ms = moves_of r.machine bs in
    in_two_parts (moves_in y b) ms y
    ∙ ap (λ (q : Run). record { says = q.says ++ (moves q.machine ms).says; machine = (moves q.machine ms).machine }) (batch_is_moves y b)
    ∙ ap (λ (q : Run). record { says = r.says ++ q.says; machine = q.machine }) (batches_are_moves bs r.machine)

-- ---- from an accepted opening

module _ (g : Config) (ns bs : List ℕ) (ok : (opening g ns bs).refusal ≡ 0) (l : List Batch) where
  abbrev y₀ : Machine
  y₀ = (opening g ns bs).machine

  pub the_run : run_of g ns bs (moves_of y₀ l) ≡ batches y₀ l
  unfolding run_of
  the_run = batches_are_moves l y₀

  pub batches_are_a_schedule : IsSchedule g ns bs (moves_of y₀ l)
  batches_are_a_schedule = is_schedule g ns bs ok (moves_of y₀ l)

  pub linearizable_batches : LinearizableRun g ns bs (moves_of y₀ l)
  linearizable_batches = linearizable_run g ns bs ok (moves_of y₀ l)

  pub never_8_batches : NoEightRun (batches y₀ l).says
  never_8_batches = rw the_run at (never_8_run g ns bs ok (moves_of y₀ l))
