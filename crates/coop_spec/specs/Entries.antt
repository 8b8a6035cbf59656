-- The entries: opening, start and step, each with its refusals in order, then the work. "A refusal gives only its number; state and
-- slices keep every word." Assumes nothing.
use Rattle.std.specs.Prelude.{ℕ, ◌+◌, ◌*◌, ◌/◌, min, List, Bool, true, not, ◌&&◌, ◌||◌, ltb, eqb, length, replicate, if◌then◌else◌, Ok, Err}
use Rattle.coop_spec.specs.declared.Refusal.{Refusal}
use Rattle.coop_spec.specs.declared.Refusal.TheVariants.{NoTask, NotStarted, Idle, NoVersion, Spoilt}
use Rattle.spec.specs.Sound.{within}
use Rattle.spec.specs.Entries.{pool_fits}
use Rattle.coop_spec.specs.declared.Operation.{Operation}
use Rattle.coop_spec.specs.declared.Task.{Task}
use Rattle.coop_spec.specs.declared.Call.{Call}
use Rattle.coop_spec.specs.declared.Call.TheVariants.{InvokeInsert, InvokeRemove, Freeze, HasMember, GetResponse}
use Rattle.coop_spec.specs.Outputs.{Output}
use Rattle.coop_spec.specs.declared.Progress.TheVariants.{At, End}
use Rattle.coop_spec.specs.Numbers.{call_number}
use Rattle.coop_spec.specs.Machine.{Machine, with_type, operation_of, set_operation, idle, fresh_task, with_own, state_of, task_of, set_task}
use Rattle.coop_spec.specs.Words.{apply_all}
use Rattle.coop_spec.specs.Sound.{sound}
use Rattle.coop_spec.specs.Lines.{Next, on, ends, Effect, effect}
use Rattle.coop_spec.specs.StepRefusals.{unsound_step, all_held}

-- ---- opening

pub record Opened : Type 0 where
  -- 0 if accepted
  pub refusal : ℕ
  pub machine : Machine

-- "A refused opening gives a state of all zeros."
unfoldable pub not_opened : ℕ → List ℕ → Opened
not_opened r ws = record { refusal = r; machine = record { state = state_of 0 0; versions = ws } }

-- the bucket, "empty at first", has version 0 with no operation; all other words are zeroed too
unfoldable pub fresh_machine : ℕ → ℕ → Machine
fresh_machine t v = record { state = state_of t v; versions = replicate (66 * v) 0 }

-- "Opening takes T as before and 1 to 1,024 versions, else 1 or 3.": of T and what the slice holds
unfoldable pub opening : ℕ → List ℕ → Opened
opening t ws =
    if not (within 1 8 t) then not_opened 1 ws
    else if not (pool_fits 66 1024 (length ws)) then not_opened 3 ws
    else record { refusal = 0; machine = fresh_machine t (length ws / 66) }

-- ---- start

-- what a start or a step answers, and what it leaves
pub record Reply : Type 0 where
  pub out : Output
  pub machine : Machine

unfoldable pub refuse : Refusal → Machine → Reply
refuse r y = record { out = Err r; machine = y }

-- "the first invoke of a number fixes its type and tag, and an invoke with others, or of a number past 63, gives 5"
unfoldable pub fits_type : Operation → ℕ → ℕ → Bool
fits_type op kind tag = eqb op.kind 0 || (eqb op.kind kind && eqb op.tag tag)

-- "A get response is started only after an invoke of that operation has ended true, and otherwise gives 5."
unfoldable pub may_start : Machine → Call → ℕ → ℕ → Bool
may_start y InvokeInsert n k = ltb n 64 && fits_type (operation_of y n) (call_number InvokeInsert) k
may_start y InvokeRemove n k = ltb n 64 && fits_type (operation_of y n) (call_number InvokeRemove) k
may_start y Freeze n k = true
may_start y HasMember n k = true
may_start y GetResponse n k = ltb n 64 && (operation_of y n).returned

-- the record of a call at its first line, of an operation's number and a tag
unfoldable pub started : Call → ℕ → ℕ → Task
started InvokeInsert n k = fresh_task (call_number InvokeInsert) n 0 95
started InvokeRemove n k = fresh_task (call_number InvokeRemove) n 0 95
started Freeze n k = fresh_task (call_number Freeze) 0 0 109
started HasMember n k = fresh_task (call_number HasMember) 0 k 112
started GetResponse n k = fresh_task (call_number GetResponse) n 0 117

-- an invoke fixes its operation's type and tag
unfoldable pub fixing : Machine → Call → ℕ → ℕ → Machine
fixing y InvokeInsert n k = set_operation n (with_type (call_number InvokeInsert) k (operation_of y n)) y
fixing y InvokeRemove n k = set_operation n (with_type (call_number InvokeRemove) k (operation_of y n)) y
fixing y Freeze n k = y
fixing y HasMember n k = y
fixing y GetResponse n k = y

-- paper 01: "Start: 8, 4, 5."
unfoldable pub start : Machine → ℕ → Call → ℕ → ℕ → Reply
start y t call n k =
    if not (sound y) then refuse Spoilt y
    else if not (ltb t y.state.tasks) then refuse NoTask y
    else if (task_of y t).running || not (may_start y call n k) then refuse NotStarted y
    else record { out = Ok (At (started call n k).line); machine = set_task t (started call n k) (fixing y call n k) }

-- ---- step

-- the task's next record with its own steps, or an idle record, and what is answered
unfoldable pub finish : Machine → ℕ → ℕ → Next → Reply
finish y t own (on c) = record { out = Ok (At c.line); machine = set_task t (with_own own c) y }
finish y t own (ends a) = record { out = Ok (End a own); machine = set_task t idle y }

-- "Own steps count accepted steps of the call, staying at 65,535."
unfoldable pub accept : Machine → ℕ → ℕ → Effect → Reply
accept y t own e = finish (apply_all e.writes y) t (min (own + 1) 65535) e.next

-- 8 of the step, 7, then the line
unfoldable pub step_running : Machine → ℕ → Task → Reply
step_running y t c =
    if unsound_step y c then refuse Spoilt y
    else if all_held y c then refuse NoVersion y
    else accept y t c.own (effect y c)

-- paper 01: "Step: 8, 4, 6, 8 of the step, 7."
unfoldable pub step : Machine → ℕ → Reply
step y t =
    if not (sound y) then refuse Spoilt y
    else if not (ltb t y.state.tasks) then refuse NoTask y
    else if not (task_of y t).running then refuse Idle y
    else step_running y t (task_of y t)
