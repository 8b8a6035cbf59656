-- Examples for the promises of a run of starts, steps and turns: for each clause a run or told outputs that it refuses, and ones at its bound
-- that it allows. Assumes nothing.
use Rattle.std.specs.Prelude.{ℕ, ◌≤◌, ◌-◌, ◌≡◌, refl, List, [], ◌∷◌, ◌++◌, map, length, drop, replicate, None, Ok, Err}
use Rattle.std.proofs.Common.{ap, arith}
use Rattle.spec.specs.declared.Refusal.{Refusal}
use Rattle.spec.specs.declared.Refusal.TheVariants.{NoTask, Running, Idle, NoRecord, Spoilt}
use Rattle.spec.specs.declared.Answer.TheVariants.{Yes, No}
use Rattle.spec.specs.declared.Call.TheVariants.{Contains}
use Rattle.spec.specs.declared.Config.{Config}
use Rattle.spec.specs.Outputs.{Output}
use Rattle.spec.specs.declared.Progress.TheVariants.{At, End}
use Rattle.spec.specs.Numbers.{refusal_number}
use Rattle.spec.specs.Machine.{Machine, config_of, with_chosen}
use Rattle.spec.specs.Entries.{list}
use Rattle.spec.specs.Schedule.{Ran, starts, steps, schedule}
use Rattle.spec.specs.History.{history}
use Rattle.spec.specs.Linearizable.{Order, Timely, Answers, after}
use Rattle.turns.specs.declared.Turn.{Turn}
use Rattle.turns.specs.declared.Turn.TheVariants as Turn
use Rattle.turns.specs.Turn.{turn}
use Rattle.turns.specs.Moves.{Move, enters, turns, Said, entered, turned, moves, run_of, stands_for, outputs}
use Rattle.turns.specs.Promises.{To, Waits, turns_given, Fair, IsSchedule, LinearizableRun, NoEightRun}
use Rattle.turns.specs.TurnRows.{all_turns}

-- ---- whose turn it was

-- a turn that is refused with 7, or ends the call, is its task's all the same
pub its_turn : To 1 (Turn.Of 1 (Ok (At 13))) × To 1 (Turn.Of 1 (Err NoRecord)) × To 1 (Turn.Of 1 (Ok (End Yes 3 None)))
its_turn = ((Ok (At 13), refl), (Err NoRecord, refl), (Ok (End Yes 3 None), refl))

pub not_its_turn : (¬ To 1 (Turn.Of 0 (Ok (At 13)))) × (¬ To 1 Turn.Idle) × (¬ To 1 (Turn.Refused Spoilt))
not_its_turn = (
  λ t. (let e = t.1 in let z : ◌≡◌ {A = ℕ} 0 1 = cc in omega arith),
  λ t. (let e = t.1 in let z : ◌≡◌ {A = ℕ} 0 1 = cc in omega arith),
  λ t. (let e = t.1 in let z : ◌≡◌ {A = ℕ} 0 1 = cc in omega arith),
)

-- turns that go to tasks, whatever their steps answer; idle turns, refused ones and starts or steps are none
pub turns_counted :
    turns_given (turned (Turn.Of 0 (Ok (At 13))) ∷ turned Turn.Idle ∷ turned (Turn.Of 1 (Err NoRecord)) ∷ entered (Ok (At 12)) ∷ turned (Turn.Of 1 (Ok (End No 3 None)))
    ∷ turned (Turn.Refused Spoilt) ∷ entered (Err Running) ∷ []) ≡ 3
unfolding turns_given
turns_counted = refl

-- ---- fair turns, with three tasks: "at most T − 1"

abbrev pub yard : List Move → Machine
yard ms = (run_of (config_of 3) (replicate 34 7) (replicate 66 7) ms).machine

abbrev pub looks : ℕ → Move
looks k = enters (starts k Contains 5)

-- a reading, what the promise says of three tasks and of one: two turns, and none
pub two_turns : (ns bs : List ℕ) → Fair (config_of 3) ns bs
    → (k : ℕ) (before between : List Move)
    → let z = (turn (run_of (config_of 3) ns bs before).machine).machine in
    To k (turn (run_of (config_of 3) ns bs before).machine).says → Waits k z between → To k (turn (moves z between).machine).says
    → turns_given (moves z between).says ≤ 2
two_turns ns bs f k before between = f k before between

pub no_turn : (ns bs : List ℕ) → Fair (config_of 1) ns bs
    → (k : ℕ) (before between : List Move)
    → let z = (turn (run_of (config_of 1) ns bs before).machine).machine in
    To k (turn (run_of (config_of 1) ns bs before).machine).says → Waits k z between → To k (turn (moves z between).machine).says
    → turns_given (moves z between).says ≤ 0
no_turn ns bs f k before between = f k before between

-- reached: tasks 0 and 1 run, task 0 has its turn, task 2 starts, tasks 1 and 2 have theirs, and the next is task 0's
unfoldable pub left : Machine
left = (turn (yard (looks 0 ∷ looks 1 ∷ []))).machine

unfoldable pub one_starts : List Move
one_starts = looks 2 ∷ turns ∷ turns ∷ []

no_such_turn : {k l : ℕ} {o : Output} {a : Turn} → a ≡ Turn.Of l o → ¬ (l ≡ k) → ¬ To k a
no_such_turn q f t = let e = t.1 in f cc

pub two_between :
    To 0 (turn (yard (looks 0 ∷ looks 1 ∷ []))).says × Waits 0 left one_starts × To 0 (turn (moves left one_starts).machine).says
    × (turns_given (moves left one_starts).says ≡ 2)
unfolding all_turns turns_given left one_starts
two_between = (
  (Ok (At 13), refl),
  (refl, no_such_turn {l = 1} {o = Ok (At 13)} refl (λ e. omega arith), (refl, no_such_turn {l = 2} {o = Ok (At 13)} refl (λ e. omega arith), tt)),
  (Ok (At 18), refl),
  refl,
)

-- it does not wait to a turn of its own: the third turn is task 0's
pub own_turn_between : ¬ Waits 0 left (looks 2 ∷ turns ∷ turns ∷ turns ∷ [])
unfolding all_turns left
own_turn_between w = w.2.2.1 (Ok (At 18), refl)

-- nor past a turn at which it is idle: its call ended, four turns went to the others, and meanwhile it started anew
unfoldable pub ended_left : Machine
ended_left = (turn (yard (looks 0 ∷ enters (steps 0) ∷ enters (steps 0) ∷ looks 1 ∷ looks 2 ∷ []))).machine

unfoldable pub idle_between : List Move
idle_between = turns ∷ turns ∷ turns ∷ looks 0 ∷ turns ∷ []

pub four_while_idle :
    (turns_given (moves ended_left idle_between).says ≡ 4) × To 0 (turn (moves ended_left idle_between).machine).says × (¬ Waits 0 ended_left idle_between)
unfolding all_turns turns_given ended_left idle_between
four_while_idle = (refl, (Ok (At 13), refl), λ w. (let e = w.0 in let z : ◌≡◌ {A = ℕ} 0 1 = cc in omega arith))

-- nor where the first turn is its own, nor idle at the second turn alone, its call ended by steps between the two
pub first_turn_its_own : ¬ Waits 1 left (turns ∷ turns ∷ [])
unfolding all_turns left
first_turn_its_own w = w.1 (Ok (At 13), refl)

pub idle_at_the_second : ¬ Waits 0 left (turns ∷ enters (steps 0) ∷ enters (steps 0) ∷ turns ∷ [])
unfolding all_turns left
idle_at_the_second w = let e = w.2.0 in let z : ◌≡◌ {A = ℕ} 0 1 = cc in omega arith

-- ---- a turn that ends a call moves the last one chosen, as one refused with 7 does (TurnRows, seven_uses_its_turn)

-- task 0's turn ends its call; it starts anew, and the next turn is task 1's
pub ended_by_its_turn :
    (run_of (config_of 2) (replicate 34 7) (replicate 66 7)
    (looks 0 ∷ enters (steps 0) ∷ enters (steps 0) ∷ looks 1 ∷ turns ∷ looks 0 ∷ turns ∷ turns ∷ [])).says
    ≡ entered (Ok (At 12)) ∷ entered (Ok (At 13)) ∷ entered (Ok (At 18)) ∷ entered (Ok (At 12)) ∷ turned (Turn.Of 0 (Ok (End No 3 None))) ∷ entered (Ok (At 12))
    ∷ turned (Turn.Of 1 (Ok (At 13))) ∷ turned (Turn.Of 0 (Ok (At 13))) ∷ []
unfolding all_turns
ended_by_its_turn = refl

-- ---- the schedule that a run stands for

-- told: an idle turn and a refused one are left out, one refused with 7 is its task's step
abbrev pub told_moves : List Move
told_moves = looks 0 ∷ turns ∷ turns ∷ enters (steps 2) ∷ turns ∷ turns ∷ []

abbrev pub told_says : List Said
told_says =
    entered (Ok (At 12)) ∷ turned Turn.Idle ∷ turned (Turn.Of 1 (Err NoRecord)) ∷ entered (Err Idle) ∷ turned (Turn.Refused Spoilt) ∷ turned (Turn.Of 0 (Ok (At 13))) ∷ []

pub told_schedule :
    (stands_for told_moves told_says ≡ starts 0 Contains 5 ∷ steps 1 ∷ steps 2 ∷ steps 0 ∷ [])
    × (outputs told_says ≡ Ok (At 12) ∷ Err NoRecord ∷ Err Idle ∷ Ok (At 13) ∷ [])
unfolding all_turns
told_schedule = (refl, refl)

-- a reading, what the promise says of a run: the schedule gives its outputs, and leaves all that it leaves but the last one chosen
pub outputs_and_machine : (g : Config) (ns bs : List ℕ) (ms : List Move) → IsSchedule g ns bs ms
    → let r = run_of g ns bs ms in
    let s = schedule g ns bs (stands_for ms r.says) in
    (s.outs ≡ outputs r.says) × (s.machine ≡ with_chosen (g.tasks - 1) r.machine)
outputs_and_machine g ns bs ms e = (ap (λ (r : Ran). r.outs) e, ap (λ (r : Ran). r.machine) e)

-- computed: after an idle turn two tasks go by turns, with a step of task 0 beside them
unfoldable pub mixed : List Move
mixed = turns ∷ looks 0 ∷ looks 1 ∷ turns ∷ enters (steps 0) ∷ turns ∷ []

pub mixed_outputs : outputs (run_of (config_of 2) (replicate 34 7) (replicate 66 7) mixed).says ≡ Ok (At 12) ∷ Ok (At 12) ∷ Ok (At 13) ∷ Ok (At 18) ∷ Ok (At 13) ∷ []
unfolding all_turns mixed
mixed_outputs = refl

-- the schedule of these steps gives them; with a turn left out, another task's step in its place, or the idle turn counted, it gives others
unfoldable pub scheduled : List ℕ → List Output
scheduled ks = (schedule (config_of 2) (replicate 34 7) (replicate 66 7) (starts 0 Contains 5 ∷ starts 1 Contains 5 ∷ map steps ks)).outs

pub schedules :
    map scheduled ((0 ∷ 0 ∷ 1 ∷ []) ∷ (0 ∷ 0 ∷ []) ∷ (0 ∷ 0 ∷ 0 ∷ []) ∷ (0 ∷ 0 ∷ 0 ∷ 1 ∷ []) ∷ [])
    ≡ (Ok (At 12) ∷ Ok (At 12) ∷ Ok (At 13) ∷ Ok (At 18) ∷ Ok (At 13) ∷ []) ∷ (Ok (At 12) ∷ Ok (At 12) ∷ Ok (At 13) ∷ Ok (At 18) ∷ [])
    ∷ (Ok (At 12) ∷ Ok (At 12) ∷ Ok (At 13) ∷ Ok (At 18) ∷ Ok (End No 3 None) ∷ []) ∷ (Ok (At 12) ∷ Ok (At 12) ∷ Ok (At 13) ∷ Ok (At 18) ∷ Ok (End No 3 None) ∷ Ok (At 13) ∷ []) ∷ []
unfolding all_turns scheduled
schedules = refl

-- ---- demand 3 of the run, and never 8

-- a reading: all four demands are of one order, and the listing is of what the run leaves
pub orders :
    {g : Config} {ns bs : List ℕ} {ms : List Move} (d : LinearizableRun g ns bs ms)
    → Order (history (stands_for ms (run_of g ns bs ms).says) (outputs (run_of g ns bs ms).says)) d.order
    × Timely d.order × Answers [] d.order
    × ((w : List ℕ) → length w ≡ 64
    → list (run_of g ns bs ms).machine w
    ≡ record { says = Ok (length (after [] d.order)); words = after [] d.order ++ drop (length (after [] d.order)) w })
orders d = (d.once, d.timely, d.answers, d.listed)

-- 4 to 7 of a start or a step and 7 of a turn are allowed; 8 is not, of either, wherever it stands, and a turn that names no task is none
ne_refusals : (r s : Refusal) → ¬ (refusal_number r ≡ refusal_number s) → ¬ (◌≡◌ {A = Output} (Err r) (Err s))
ne_refusals r s f e = let z : r ≡ s = cc in f (ap refusal_number z)

pub no_eight : NoEightRun (entered (Err Running) ∷ turned Turn.Idle ∷ turned (Turn.Of 1 (Err NoRecord)) ∷ entered (Err NoTask) ∷ [])
no_eight = (ne_refusals Running Spoilt (λ e. omega arith), (ne_refusals NoRecord Spoilt (λ e. omega arith), (ne_refusals NoTask Spoilt (λ e. omega arith), tt)))

pub an_eight :
    (¬ NoEightRun (entered (Ok (At 12)) ∷ entered (Err Spoilt) ∷ [])) × (¬ NoEightRun (turned Turn.Idle ∷ turned (Turn.Of 1 (Err Spoilt)) ∷ []))
    × (¬ NoEightRun (turned (Turn.Of 0 (Ok (At 13))) ∷ entered (Err Spoilt) ∷ entered (Ok (At 12)) ∷ []))
    × (¬ NoEightRun (turned (Turn.Of 0 (Ok (At 13))) ∷ turned (Turn.Refused Spoilt) ∷ [])) × (¬ NoEightRun (entered (Ok (At 12)) ∷ turned (Turn.Refused NoRecord) ∷ []))
an_eight = (λ n. n.1.0 refl, λ n. n.0 refl, λ n. n.1.0 refl, λ n. n.1, λ n. n.1)
