-- Rows of many turns: they go on after a step that is refused with 7, which uses up its turn, up to the number asked for; and end where nothing runs.
-- Assumes nothing.
use Rattle.std.specs.Prelude.{◌≡◌, refl, [], ◌∷◌, map, Ok, Err}
use Rattle.spec.specs.declared.Refusal.TheVariants.{NoRecord}
use Rattle.spec.specs.declared.Progress.TheVariants.{At}
use Rattle.spec.specs.Machine.{idle}
use Rattle.spec.specs.EditEntryRows.{wants_node}
use Rattle.turns.specs.declared.Turn.TheVariants as Turn
use Rattle.turns.specs.TurnRows.{all_turns, at, looks}
use Rattle.turns.specs.Turns.{names, turns_of}

-- task 1 wants a node, of which none is free; task 0 looks a tag up
pub seven_goes_on :
    map (λ n. (turns_of n (at 0 (looks ∷ wants_node ∷ []))).says) (0 ∷ 1 ∷ 3 ∷ [])
    ≡ [] ∷ (Turn.Of 1 (Err NoRecord) ∷ []) ∷ (Turn.Of 1 (Err NoRecord) ∷ Turn.Of 0 (Ok (At 13)) ∷ Turn.Of 1 (Err NoRecord) ∷ []) ∷ []
unfolding all_turns at looks names turns_of
seven_goes_on = refl

pub nothing_runs : (turns_of 3 (at 0 (idle ∷ []))).says ≡ []
unfolding all_turns at names turns_of
nothing_runs = refl
