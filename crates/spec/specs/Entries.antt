-- The entries: opening, start, step, list, show, each with its refusals in the order of "Who can cause a refusal", then the
-- work. "A refusal gives only its number; state and slices keep every word." Assumes nothing.
use Rattle.std.specs.Prelude.{ℕ, ◌+◌, ◌*◌, ◌-◌, ◌%◌, ◌/◌, min, List, [], ◌∷◌, ◌++◌, Bool, false, not, ◌&&◌, ◌||◌, ltb, leb, eqb, length, drop, replicate, if◌then◌else◌, Option, Some, None, Ok, Err}
use Rattle.spec.specs.declared.Refusal.{Refusal}
use Rattle.spec.specs.declared.Refusal.TheVariants.{NoTask, Running, Idle, NoRecord, Spoilt, ShortList, Withdrawn}
use Rattle.spec.specs.declared.Task.{Task}
use Rattle.spec.specs.declared.Config.{Config}
use Rattle.spec.specs.declared.Call.{Call}
use Rattle.spec.specs.declared.Call.TheVariants.{Insert, Remove, Contains, Grow, Shrink}
use Rattle.spec.specs.Outputs.{Output, Listing}
use Rattle.spec.specs.declared.Progress.TheVariants.{At, End}
use Rattle.spec.specs.Numbers.{call_number}
use Rattle.spec.specs.Machine.{Machine, idle, fresh_task, with_own, zero_config, state_of, task_of, set_task}
use Rattle.spec.specs.Words.{number, filled, count, tags, apply}
use Rattle.spec.specs.Sound.{within, version_known, task_count, bucket_count, sound}
use Rattle.spec.specs.Listed.{listed}
use Rattle.spec.specs.Lines.{Next, on, ends, Effect, effect}
use Rattle.spec.specs.StepRefusals.{unsound_step, all_held}

-- ---- opening

pub record Opened : Type 0 where
  -- 0 if accepted
  pub refusal : ℕ
  pub machine : Machine

-- "slice not 34 × H words for an H within bounds", and likewise 66 × B: so many words are records of this width, 1 up to most
unfoldable pub pool_fits : ℕ → ℕ → ℕ → Bool
pool_fits width most words = eqb (words % width) 0 && within 1 most (words / width)

-- "A refused opening gives a state of all zeros."
unfoldable pub not_opened : ℕ → List ℕ → List ℕ → Opened
not_opened r ns bs = record { refusal = r; machine = record { state = state_of zero_config 0 0; nodes = ns; buckets = bs } }

-- "Opening zeroes both pools, puts changeable empty bucket 0 into node 0 of size 1, makes it head, and sets both 'last taken' to
-- 0; no task runs."
unfoldable pub fresh_machine : Config → ℕ → ℕ → Machine
fresh_machine g h b =
    record {
      state = state_of g h b;
      nodes = 1 ∷ 0 ∷ 1 ∷ replicate (34 * h - 3) 0;
      buckets = 1 ∷ replicate (66 * b - 1) 0;
    }

-- "in this order: 1 T outside its bounds; 2 node slice ..; 3 bucket slice ..": of T and what the two slices hold. Paper 02, U3: "11,
-- opening with another version, after 3"
unfoldable pub opening : Config → List ℕ → List ℕ → Opened
opening g ns bs =
    if not (within 1 8 g.tasks) then not_opened 1 ns bs
    else if not (pool_fits 34 64 (length ns)) then not_opened 2 ns bs
    else if not (pool_fits 66 1024 (length bs)) then not_opened 3 ns bs
    else if not (version_known g) then not_opened 11 ns bs
    else record { refusal = 0; machine = fresh_machine g (length ns / 34) (length bs / 66) }

-- ---- start and step

-- what a start or a step answers, and what it leaves
pub record Reply : Type 0 where
  pub out : Output
  pub machine : Machine

unfoldable pub refuse : Refusal → Machine → Reply
refuse r y = record { out = Err r; machine = y }

-- "A start sets the call, the tag (0 for a resize) and the first line (12, 32 or 20)"
unfoldable pub started : Call → ℕ → Task
started Insert k = fresh_task (call_number Insert) k 32
started Remove k = fresh_task (call_number Remove) k 32
started Contains k = fresh_task (call_number Contains) k 12
started Grow k = fresh_task (call_number Grow) 0 20
started Shrink k = fresh_task (call_number Shrink) 0 20

-- paper 02, U9: "In a yard opened under the new rule an insert of tag 0 can't be started. Remove and contains still accept it"; a resize
-- has no tag
unfoldable pub withdrawn : Config → Call → ℕ → Bool
withdrawn g Insert k = g.zero_withdrawn && eqb k 0
withdrawn g Remove k = false
withdrawn g Contains k = false
withdrawn g Grow k = false
withdrawn g Shrink k = false

-- "Start: 8, 4, 5." Paper 02, U9: "14, starting an insert of tag 0 under the new rule, after 5"
unfoldable pub start : Machine → ℕ → Call → ℕ → Reply
start y k call tag =
    if not (sound y) then refuse Spoilt y
    else if not (ltb k (task_count y)) then refuse NoTask y
    else if (task_of y k).running then refuse Running y
    else if withdrawn y.state.config call tag then refuse Withdrawn y
    else record { out = Ok (At (started call tag).line); machine = set_task k (started call tag) y }

-- paper 02, U2: "A bucket's add and remove now also give the number of tags it holds afterwards, and an ended insert or remove
-- hands that number on, full and no included": of the bucket of that link, in what the step leaves; a contains and a resize name none
unfoldable pub occupancy : Machine → ℕ → Option ℕ
occupancy y l = if filled l then Some (count y.buckets (number l)) else None

-- the task's next record with its own steps, or an idle record, and what is answered
unfoldable pub finish : Machine → ℕ → ℕ → Next → Reply
finish y k own (on c) = record { out = Ok (At c.line); machine = set_task k (with_own own c) y }
finish y k own (ends a l) = record { out = Ok (End a own (occupancy y l)); machine = set_task k idle y }

-- "Own steps count accepted steps of the call, staying at 65,535."
unfoldable pub accept : Machine → ℕ → ℕ → Effect → Reply
accept y k own e = finish (apply e.write y) k (min (own + 1) 65535) e.next

-- "8 of the step, 7", then the line
unfoldable pub step_running : Machine → ℕ → Task → Reply
step_running y k c =
    if unsound_step y c then refuse Spoilt y
    else if all_held y c then refuse NoRecord y
    else accept y k c.own (effect y c)

-- "Step: 8, 4, 6, 8 of the step, 7."
unfoldable pub step : Machine → ℕ → Reply
step y k =
    if not (sound y) then refuse Spoilt y
    else if not (ltb k (task_count y)) then refuse NoTask y
    else if not (task_of y k).running then refuse Idle y
    else step_running y k (task_of y k)

-- ---- list and show

-- what a list answers, and what it leaves in the lent words
pub record Written : Type 0 where
  pub says : Listing
  pub words : List ℕ

-- "List: 8, 9; it writes the tags ascending, gives their number, and keeps later words." 8 also for what the paper says of a list:
-- "In a list also if more than 64 tags are listed."
unfoldable pub list : Machine → List ℕ → Written
list y w =
    if not (sound y) || ltb 64 (length (listed y)) then record { says = Err Spoilt; words = w }
    else if not (leb 64 (length w)) then record { says = Err ShortList; words = w }
    else record { says = Ok (length (listed y)); words = listed y ++ drop (length (listed y)) w }

-- "Showing a bucket gives back the part of the lent words that holds its tags; a bad number or spoilt memory gives an empty part."
unfoldable pub show : Machine → ℕ → List ℕ
show y k = if sound y && ltb k (bucket_count y) then tags y.buckets k else []
