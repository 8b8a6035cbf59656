-- One turn of the dispatcher (paper 02, U7). Assumes nothing.
use Rattle.std.specs.Prelude.{ℕ, List, not, eqb, if◌then◌else◌, Ok, Err}
use Rattle.spec.specs.declared.Refusal.TheVariants.{Spoilt}
use Rattle.spec.specs.Outputs.{Output}
use Rattle.spec.specs.declared.Progress.TheVariants.{At, End}
use Rattle.spec.specs.Lists.{filter, range}
use Rattle.spec.specs.Numbers.{refusal_number}
use Rattle.spec.specs.Machine.{Machine, with_chosen, task_of}
use Rattle.spec.specs.Words.{number, filled}
use Rattle.spec.specs.Sound.{task_count, sound}
use Rattle.spec.specs.Held.{cyclic_order, first_free}
use Rattle.spec.specs.Entries.{step}
use Rattle.turns.specs.declared.Turn.{Turn}
use Rattle.turns.specs.declared.Turn.TheVariants.{Idle, Of, Refused}

-- ---- who is next

-- the tasks that run nothing, as links
unfoldable pub idle_tasks : Machine → List ℕ
idle_tasks y = filter (λ l. not (task_of y (number l)).running) (range 1 (task_count y))

-- "a dispatcher that chooses which running task steps next, going round from the last one chosen, .. and passing idle tasks": the first one
-- that is not idle after the last one chosen, which is itself tried at the end, as a record is taken; its link, or 0 if nothing runs
unfoldable pub next_task : Machine → ℕ
next_task y = let idle = idle_tasks y in first_free idle (cyclic_order (task_count y) y.state.chosen)

-- ---- a turn

-- what it answers, and what it leaves
pub record Turned : Type 0 where
  pub says : Turn
  pub machine : Machine

abbrev pub gives : Turn → Machine → Turned
gives a y = record { says = a; machine = y }

-- the turn goes to task k, whose step answers so and leaves z: the answer names the task, whatever its step answers. "A step refused by lack
-- of records uses up its turn: the last one chosen, kept in the state, moves and no other word does." 8 of the step changes nothing
unfoldable pub after_step : Machine → ℕ → Output → Machine → Turned
after_step y k (Ok (At line)) z = gives (Of k (Ok (At line))) (with_chosen k z)
after_step y k (Ok (End a own full)) z = gives (Of k (Ok (End a own full))) (with_chosen k z)
after_step y k (Err r) z = gives (Of k (Err r)) (if eqb (refusal_number r) 7 then with_chosen k y else y)

-- "If nothing runs it says idle and changes nothing."
unfoldable pub turn_to : Machine → ℕ → Turned
turn_to y l =
    let r = step y (number l) in
    if filled l then after_step y (number l) r.out r.machine else gives Idle y

-- 8 comes first, as in every entry: in spoilt memory no task is chosen, and none is named
unfoldable pub turn : Machine → Turned
turn y = if not (sound y) then gives (Refused Spoilt) y else turn_to y (next_task y)

-- the number with which a turn is refused, 0 if it is not
unfoldable pub refusal_of : Turn → ℕ
refusal_of Idle = 0
refusal_of (Of k (Ok (At line))) = 0
refusal_of (Of k (Ok (End a own full))) = 0
refusal_of (Of k (Err r)) = refusal_number r
refusal_of (Refused r) = refusal_number r
