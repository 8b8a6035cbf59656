-- What the dispatcher's code gives back, as the definitions say it. Assumes nothing.
use Rattle.std.specs.Prelude.{ℕ, List, Bool, true, ◌&&◌, ltb, leb, eqb, if◌then◌else◌, Ok, Err}
use Rattle.spec.specs.declared.State.{State}
use Rattle.spec.specs.Outputs.{Output}
use Rattle.spec.specs.declared.Progress.TheVariants.{At, End}
use Rattle.spec.specs.Machine.{Machine, machine_of, state_chosen}
use Rattle.spec.specs.Sound.{task_count, sound}
use Rattle.spec.specs.Numbers.{refusal_number}
use Rattle.lines.specs.declared.Stepped.{Stepped}
use Rattle.turns.specs.declared.Turn.TheVariants.{Of, Refused}
use Rattle.turns.specs.Turn as Turn
use Rattle.turns.specs.Turn.{next_task, gives}
use Rattle.dispatch.specs.declared.Turned.{Turned}

abbrev pub turned_of : Turned → List ℕ → List ℕ → Turn.Turned
turned_of r ns bs = gives r.says (machine_of r.state ns bs)

-- the link of the task that is next, where T and the last one chosen are within their bounds
unfoldable pub next_to_step : Machine → ℕ
next_to_step y = if leb (task_count y) 8 && ltb y.state.chosen (task_count y) then next_task y else 0

-- whether a step that answers so uses up its turn, and the task chosen last after a turn of task k
unfoldable pub uses_turn : Output → Bool
uses_turn (Ok (At line)) = true
uses_turn (Ok (End a own full)) = true
uses_turn (Err r) = eqb (refusal_number r) 7

abbrev pub chosen_after : Output → ℕ → ℕ → ℕ
chosen_after o k last = if uses_turn o then k else last

-- what a turn gives, by the state that its task's step left, whether memory is sound, and what the step answered
unfoldable pub by_output : ℕ → State → Bool → Output → Turned
by_output k z ok (Ok (At line)) = record { says = Of k (Ok (At line)); state = state_chosen k z }
by_output k z ok (Ok (End a own full)) = record { says = Of k (Ok (End a own full)); state = state_chosen k z }
by_output k z ok (Err r) =
    if eqb (refusal_number r) 7 then record { says = Of k (Err r); state = state_chosen k z }
    else record { says = if ok then Of k (Err r) else Refused r; state = z }

abbrev pub stepped_turn : ℕ → Stepped → List ℕ → List ℕ → Turned
stepped_turn k r ns bs = by_output k r.state (sound (machine_of r.state ns bs)) r.out
