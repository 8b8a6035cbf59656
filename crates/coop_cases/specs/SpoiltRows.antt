-- Spoilt memory, a row for each condition of refusal 8, beside memory at the edge that is sound; and the refusals of a step. The machine
-- has two tasks, two versions and operation 0, an insert of tag 5 that has ended true; the bucket has version 1. Assumes nothing.
use Rattle.std.specs.Prelude.{ℕ, ◌≡◌, refl, List, [], ◌∷◌, ◌++◌, map, Bool, true, false, replicate, set, Ok, Err}
use Rattle.coop_spec.specs.declared.Refusal.TheVariants.{NoVersion, Spoilt}
use Rattle.spec.specs.Lists.{range}
use Rattle.coop_spec.specs.declared.Answer.TheVariants.{Yes}
use Rattle.coop_spec.specs.declared.Call.TheVariants.{Freeze, InvokeInsert}
use Rattle.coop_spec.specs.Outputs.{Output}
use Rattle.coop_spec.specs.declared.Progress.TheVariants.{At, End}
use Rattle.coop_spec.specs.declared.Task.{Task}
use Rattle.coop_spec.specs.Machine.{Machine, with_state, with_versions, set_operation, set_task, with_own}
use Rattle.coop_spec.specs.Words.{install, set_op, apply_all}
use Rattle.coop_spec.specs.Sound.{sound}
use Rattle.coop_spec.specs.Entries.{opening, start, step}
use Rattle.coop_spec.specs.Schedule.{run}
use Rattle.coop_spec.specs.Everything.{everything}
use Rattle.coop_spec.specs.Rows.{calling, stepping}
use Rattle.coop_spec.specs.LineRows.{task, inv, frz, has}

unfoldable pub base : Machine
base = (run (opening 2 (replicate 132 7)).machine (calling 0 InvokeInsert 0 5 11)).machine

-- with these numbers: T, the number of versions, the bucket's version, the one last taken
unfoldable pub with_numbers : ℕ → ℕ → ℕ → ℕ → Machine
with_numbers t v k l =
    let s = base.state in
    with_state (record { tasks = t; versions = v; node = k; last = l; flag = s.flag; operation = s.operation; task = s.task }) base

-- with this word at a place of the pool; with this operation 1; with this record of task 1
unfoldable pub word : ℕ → ℕ → Machine
word at m = with_versions (set base.versions at m) base

unfoldable pub operation_1 : ℕ → ℕ → Bool → Bool → Bool → Machine
operation_1 kind tag resp done returned =
    set_operation 1 (record { kind = kind; tag = tag; resp = resp; done = done; returned = returned }) base

-- a task that does not run
unfoldable pub rests : ℕ → ℕ → ℕ → ℕ → ℕ → ℕ → ℕ → ℕ → Task
rests call op tag line back own o helped =
    record { running = false; call = call; op = op; tag = tag; line = line; back = back; own = own; o = o; helped = helped }

unfoldable pub task_1 : Task → Machine
task_1 c = set_task 1 c base

-- ---- sound, at the edge

unfoldable pub edges : List Machine
edges =
    base ∷ with_numbers 8 2 0 1 ∷ with_numbers 1 2 1 0
    ∷ word 0 0 ∷ word 0 1 ∷ word 68 9
    ∷ operation_1 2 9 true true true ∷ operation_1 1 0 false false false
    ∷ map task_1 (inv 95 0 0 0 ∷ inv 107 0 2 0 ∷ inv 127 0 0 0 ∷ inv 140 103 2 1 ∷ inv 129 106 0 0 ∷ inv 138 126 1 1 ∷ [])
    ++ map task_1 (frz 109 0 0 0 ∷ frz 120 0 0 0 ∷ frz 130 126 2 0 ∷ has 9 112 0 ∷ has 9 113 2 ∷ task 5 0 0 117 0 0 0 ∷ [])

-- ---- spoilt

-- "T, H, B or a slice length is wrong; a record number is past its pool"
unfoldable pub spoilt_numbers : List Machine
spoilt_numbers =
    with_numbers 0 2 0 0 ∷ with_numbers 9 2 0 0 ∷ with_numbers 2 0 0 0 ∷ with_numbers 2 1 0 0 ∷ with_numbers 2 3 0 0 ∷ with_numbers 2 2 2 0
    ∷ with_numbers 2 2 0 2 ∷ with_versions [] base ∷ []

-- "a version's first word over 65 or of an operation never invoked"; "its count over 64, its tags not strictly ascending or a word after
-- them not 0"
unfoldable pub spoilt_versions : List Machine
spoilt_versions = word 0 66 ∷ word 66 3 ∷ word 0 65 ∷ word 67 65 ∷ word 67 0 ∷ word 67 2 ∷ word 69 6 ∷ word 131 1 ∷ []

-- a kind that is none; one never invoked that is not zeros; one that ended true and is not done
unfoldable pub spoilt_operations : List Machine
spoilt_operations =
    operation_1 3 0 false false false ∷ operation_1 0 1 false false false ∷ operation_1 0 0 true false false
    ∷ operation_1 0 0 false true false ∷ operation_1 1 9 true false true ∷ []

-- "a running task's line is not one of its call's": the call is none; a line of another call
unfoldable pub spoilt_lines : List Machine
spoilt_lines = map task_1 (task 0 0 0 95 0 0 0 ∷ task 6 0 0 95 0 0 0 ∷ inv 109 0 0 0 ∷ frz 95 0 0 0 ∷ has 5 117 0 ∷ task 5 0 0 112 0 0 0 ∷ inv 98 0 0 0 ∷ [])

-- where HELPFINISH returns to; the call's operation and tag; "a record number is past its pool"; a helped operation never invoked; "a task
-- from T on runs"; "an idle task's record is not zeros and empty places"
unfoldable pub spoilt_tasks : List Machine
spoilt_tasks =
    map task_1 (inv 129 0 0 0 ∷ inv 95 103 0 0 ∷ frz 129 103 0 0 ∷ frz 130 106 1 0 ∷ inv 138 104 1 1 ∷ [])
    ++ map task_1 (task 2 0 0 95 0 0 0 ∷ task 1 1 0 95 0 0 0 ∷ task 1 64 0 95 0 0 0 ∷ task 5 1 0 117 0 0 0 ∷ task 3 1 0 109 0 0 0 ∷ [])
    ++ map task_1 (task 1 0 5 95 0 0 0 ∷ inv 100 0 3 0 ∷ inv 138 103 1 2 ∷ inv 138 103 1 65 ∷ [])
    ++ map task_1 (rests 1 0 0 0 0 0 0 0 ∷ rests 0 1 0 0 0 0 0 0 ∷ rests 0 0 1 0 0 0 0 0 ∷ rests 0 0 0 95 0 0 0 0 ∷ [])
    ++ map task_1 (rests 0 0 0 0 103 0 0 0 ∷ rests 0 0 0 0 0 1 0 0 ∷ rests 0 0 0 0 0 0 1 0 ∷ rests 0 0 0 0 0 0 0 1 ∷ [])
    ++ set_task 2 (inv 95 0 0 0) base ∷ []

pub edges_sound : map sound edges ≡ map (λ y. true) edges
unfolding everything stepping calling task inv frz has base with_numbers word operation_1 task_1 edges
edges_sound = refl

unfoldable pub spoilt : List Machine
spoilt = spoilt_numbers ++ spoilt_versions ++ spoilt_operations ++ spoilt_lines ++ spoilt_tasks

pub each_spoilt : map sound spoilt ≡ map (λ y. false) spoilt
unfolding everything stepping calling task inv frz has base with_numbers word operation_1 rests task_1 spoilt_numbers spoilt_versions
    spoilt_operations spoilt_lines spoilt_tasks spoilt
each_spoilt = refl

-- 8 comes before 4, 5 and 6
pub eight_first : ((start (word 0 66) 9 Freeze 0 0).out ≡ Err Spoilt) × ((step (word 0 66) 9).out ≡ Err Spoilt)
unfolding everything stepping calling base word
eight_first = (refl, refl)

-- ---- 8 of a step, and 7

-- what a step of task 1 answers from this record; task 0 names version 0, so that both are held
unfoldable pub steps_from : Task → Output
steps_from c = (step (set_task 1 c (set_task 0 (has 5 113 1) base)) 1).out

-- a line that goes through an empty place
unfoldable pub through : List Task
through =
    inv 100 0 0 0 ∷ inv 102 0 0 0 ∷ has 5 113 0 ∷ frz 122 0 0 0 ∷ frz 123 0 0 0 ∷ frz 130 126 0 0
    ∷ frz 138 126 0 1 ∷ frz 140 126 0 1 ∷ frz 138 126 1 0 ∷ frz 139 126 1 0 ∷ frz 140 126 1 0 ∷ []

pub through_rows : map steps_from through ≡ map (λ c. Err Spoilt) through
unfolding everything stepping calling task inv frz has base through steps_from
through_rows = refl

-- 101 and 139 do not go through o; the operation of 101 has been applied, so that it goes round
pub past_o_rows : map steps_from (inv 101 0 0 0 ∷ frz 139 126 0 1 ∷ []) ≡ Ok (At 95) ∷ Ok (At 140) ∷ []
unfolding everything stepping calling task inv frz has base steps_from
past_o_rows = refl

-- every version is held: 7 at line 140, but only if the bucket still has o
pub seven_rows : map steps_from (frz 140 126 2 1 ∷ frz 140 126 1 1 ∷ frz 139 126 2 1 ∷ []) ≡ Err NoVersion ∷ Ok (At 120) ∷ Ok (At 140) ∷ []
unfolding everything stepping calling task inv frz has base steps_from
seven_rows = refl

-- the bucket's version has the 64 tags 10 to 73: a 65th is 8, before 7, and again only if the bucket still has o; one that is there, none
unfoldable pub full_from : ℕ → Task → Output
full_from tag c =
    let y = apply_all (install 1 (range tag 64) ∷ set_op 1 2 ∷ []) base in (step (set_task 1 c (set_task 0 (has 5 113 1) y)) 1).out

pub full_rows : map (full_from 10) (frz 140 126 2 1 ∷ frz 140 126 1 1 ∷ []) ++ map (full_from 5) (frz 140 126 2 1 ∷ []) ≡ Err Spoilt ∷ Ok (At 120) ∷ Err NoVersion ∷ []
unfolding everything stepping calling task inv frz has base full_from
full_rows = refl

-- own steps stay at 65,535
pub own_rows : map (λ n. steps_from (with_own n (has 5 113 2))) (0 ∷ 65534 ∷ 65535 ∷ []) ≡ Ok (End Yes 1) ∷ Ok (End Yes 65535) ∷ Ok (End Yes 65535) ∷ []
unfolding everything stepping calling task inv frz has base steps_from
own_rows = refl
