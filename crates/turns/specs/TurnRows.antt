-- Rows of turns: whole machines before and after one, and what runs say. A wrong definition breaks them. Assumes nothing.
use Rattle.std.specs.Prelude.{ℕ, ◌≡◌, refl, List, [], ◌∷◌, ◌++◌, map, replicate, Some, None, Ok, Err}
use Rattle.spec.specs.declared.Refusal.TheVariants.{NoRecord, Spoilt}
use Rattle.spec.specs.declared.Answer.TheVariants.{Yes}
use Rattle.spec.specs.declared.Call.TheVariants.{Insert, Contains, Grow}
use Rattle.spec.specs.declared.Progress.TheVariants.{At, End}
use Rattle.spec.specs.declared.Task.{Task}
use Rattle.spec.specs.Machine.{Machine, config_of, idle, with_chosen}
use Rattle.spec.specs.Schedule.{starts, steps}
use Rattle.spec.specs.Everything.{everything}
use Rattle.spec.specs.WholeRows.{call◌tag◌line◌i◌own◌t◌s◌b◌m◌n◌new_node◌new_bucket◌, whole_rows}
use Rattle.spec.specs.EditEntryRows.{small, wants_node, worn}
use Rattle.turns.specs.declared.Turn.TheVariants as Turn
use Rattle.turns.specs.Turn.{gives, idle_tasks, next_task, after_step, turn_to, turn, refusal_of}
use Rattle.turns.specs.Moves.{Move, enters, turns, Said, entered, turned, move, moves, run_of, stands_for, outputs}

-- opens all definitions of a run
unfoldable pub all_turns : ℕ
unfolding everything whole_rows small wants_node worn idle_tasks next_task after_step turn_to turn refusal_of move moves run_of stands_for outputs
all_turns = 0

-- ---- one turn, in a small yard of two tasks: the last one chosen, and the tasks

unfoldable pub at : ℕ → List Task → Machine
at k cs = with_chosen k (small cs)

-- a contains at 12 and then at 13, and one at 18 with no bucket
unfoldable pub looks : Task
looks = call 3 tag 5 line 12 i 0 own 0 t 0 s 0 b 0 m 0 n 0 new_node 0 new_bucket 0

unfoldable pub looked : Task
looked = call 3 tag 5 line 13 i 0 own 1 t 1 s 0 b 0 m 0 n 0 new_node 0 new_bucket 0

unfoldable pub lost : Task
lost = call 3 tag 5 line 18 i 0 own 2 t 1 s 0 b 0 m 0 n 0 new_node 0 new_bucket 0

-- both run: the one after the last one chosen. One runs: it, though it was chosen last
pub goes_round :
    map turn (at 0 (looks ∷ looks ∷ []) ∷ at 1 (looks ∷ looks ∷ []) ∷ at 0 (looks ∷ []) ∷ at 0 (idle ∷ looks ∷ []) ∷ [])
    ≡ gives (Turn.Of 1 (Ok (At 13))) (at 1 (looks ∷ looked ∷ []))
    ∷ gives (Turn.Of 0 (Ok (At 13))) (at 0 (looked ∷ looks ∷ []))
    ∷ gives (Turn.Of 0 (Ok (At 13))) (at 0 (looked ∷ []))
    ∷ gives (Turn.Of 1 (Ok (At 13))) (at 1 (idle ∷ looked ∷ []))
    ∷ []
unfolding all_turns at looks looked
goes_round = refl

-- a step refused with 7 uses up its turn; nothing runs; 8 of the step names its task and changes nothing; spoilt memory names none, also
-- where nothing runs
pub no_step :
    map turn (at 0 (looks ∷ wants_node ∷ []) ∷ at 0 [] ∷ at 0 (looks ∷ lost ∷ []) ∷ at 0 (looks ∷ worn ∷ []) ∷ at 2 [] ∷ [])
    ≡ gives (Turn.Of 1 (Err NoRecord)) (at 1 (looks ∷ wants_node ∷ []))
    ∷ gives Turn.Idle (at 0 [])
    ∷ gives (Turn.Of 1 (Err Spoilt)) (at 0 (looks ∷ lost ∷ []))
    ∷ gives (Turn.Refused Spoilt) (at 0 (looks ∷ worn ∷ []))
    ∷ gives (Turn.Refused Spoilt) (at 2 [])
    ∷ []
unfolding all_turns at looks lost
no_step = refl

-- ---- runs

-- three tasks, of which task 1 stays idle; task 0 is also stepped once beside its turns, so that task 2 is left alone
unfoldable pub with_steps : List Move
with_steps =
    turns ∷ enters (starts 0 Insert 5) ∷ enters (starts 2 Contains 5) ∷ turns ∷ turns ∷ enters (steps 0) ∷ turns ∷ turns ∷ turns ∷ turns ∷ []

unfoldable pub with_steps_say : List Said
with_steps_say =
    turned Turn.Idle ∷ entered (Ok (At 32)) ∷ entered (Ok (At 12)) ∷ turned (Turn.Of 0 (Ok (At 33))) ∷ turned (Turn.Of 2 (Ok (At 13))) ∷ entered (Ok (At 36))
    ∷ turned (Turn.Of 0 (Ok (End Yes 3 (Some 1)))) ∷ turned (Turn.Of 2 (Ok (At 18))) ∷ turned (Turn.Of 2 (Ok (End Yes 3 None))) ∷ turned Turn.Idle ∷ []

pub passes_idle : (run_of (config_of 3) (replicate 34 7) (replicate 66 7) with_steps).says ≡ with_steps_say
unfolding all_turns with_steps with_steps_say
passes_idle = refl

-- the schedule that it stands for
pub idle_left_out :
    stands_for with_steps with_steps_say
    ≡ starts 0 Insert 5 ∷ starts 2 Contains 5 ∷ steps 0 ∷ steps 2 ∷ steps 0 ∷ steps 0 ∷ steps 2 ∷ steps 2 ∷ []
unfolding all_turns with_steps with_steps_say
idle_left_out = refl

-- one node: a grow is refused with 7 at line 27, and the other task has its turns between
pub seven_uses_its_turn :
    (run_of (config_of 2) (replicate 34 7) (replicate 66 7)
    (enters (starts 0 Grow 0) ∷ replicate 5 (enters (steps 0)) ++ (enters (starts 1 Contains 5) ∷ replicate 4 turns))).says
    ≡ entered (Ok (At 20)) ∷ entered (Ok (At 39)) ∷ entered (Ok (At 40)) ∷ entered (Ok (At 51)) ∷ entered (Ok (At 24)) ∷ entered (Ok (At 27)) ∷ entered (Ok (At 12))
    ∷ turned (Turn.Of 0 (Err NoRecord)) ∷ turned (Turn.Of 1 (Ok (At 13))) ∷ turned (Turn.Of 0 (Err NoRecord)) ∷ turned (Turn.Of 1 (Ok (At 18))) ∷ []
unfolding all_turns
seven_uses_its_turn = refl
