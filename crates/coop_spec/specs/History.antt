-- What is told of a schedule, event by event: its ended calls with their answers, each task's last accepted start, and the operations
-- that took effect. Assumes nothing.
use Rattle.std.specs.Prelude.{ℕ, suc, ◌-◌, List, [], ◌∷◌, true, false, not, ◌&&◌, eqb, leb, if◌then◌else◌, Ok, Err}
use Rattle.coop_spec.specs.declared.Answer.{Answer}
use Rattle.coop_spec.specs.declared.Answer.TheVariants.{Yes, No, Version}
use Rattle.coop_spec.specs.declared.Call.{Call}
use Rattle.coop_spec.specs.declared.Call.TheVariants.{InvokeInsert, InvokeRemove, Freeze, HasMember, GetResponse}
use Rattle.coop_spec.specs.Outputs.{Output}
use Rattle.coop_spec.specs.declared.Progress.TheVariants.{At, End}
use Rattle.coop_spec.specs.Machine.{Machine, operation_of}
use Rattle.coop_spec.specs.Words.{current, op_word, tags_of}
use Rattle.coop_spec.specs.Entries.{Reply, opening}
use Rattle.coop_spec.specs.Schedule.{Event, starts, steps, event}
use Rattle.coop_spec.specs.Atomic.{Operations, AtomicCall, invoke, freeze, has_member, get_response, Result, boolean, tag_set}

-- ---- the calls and answers of the machine as Figure 1 has them

unfoldable pub atomic_call : Call → ℕ → ℕ → AtomicCall
atomic_call InvokeInsert n k = invoke n
atomic_call InvokeRemove n k = invoke n
atomic_call Freeze n k = freeze
atomic_call HasMember n k = has_member k
atomic_call GetResponse n k = get_response n

-- a freeze returns the set that its version has when it ends
unfoldable pub result_of : Machine → Answer → Result
result_of y Yes = boolean true
result_of y No = boolean false
result_of y (Version v) = tag_set (tags_of y v)

-- the types and tags of the operations as the invokes so far have fixed them
unfoldable pub operations : Machine → Operations
operations y = record { inserts = λ n. eqb (operation_of y n).kind 1; tag = λ n. (operation_of y n).tag }

-- ---- calls: `start` and `end` are the places of their two events in the schedule, from 0

pub record Occurrence : Type 0 where
  pub task : ℕ
  pub start : ℕ
  pub call : AtomicCall
  pub result : Result

pub record Ended : Type 0 where
  pub occurrence : Occurrence
  pub end : ℕ

-- a task's last accepted start
pub record Started : Type 0 where
  pub call : AtomicCall
  pub start : ℕ

-- each task's last accepted start, after event n
unfoldable pub note : ℕ → (ℕ → Started) → Event → Output → ℕ → Started
note n last (starts p call i k) (Ok (At l)) q = if eqb q p then record { call = atomic_call call i k; start = n } else last q
note n last (starts p call i k) (Ok (End a own)) q = last q
note n last (starts p call i k) (Err r) q = last q
note n last (steps p) o q = last q

-- the ended calls after event n, the last first; y is what the event left
unfoldable pub tell : ℕ → (ℕ → Started) → List Ended → Event → Output → Machine → List Ended
tell n last H (starts p call i k) o y = H
tell n last H (steps p) (Ok (At l)) y = H
tell n last H (steps p) (Ok (End a own)) y =
    record { occurrence = record { task = p; start = (last p).start; call = (last p).call; result = result_of y a }; end = n } ∷ H
tell n last H (steps p) (Err r) y = H

-- ---- operations that took effect, the last first, from the machine before and after each event

-- put into the bucket's version: from here on the bucket counts it
unfoldable pub claims : Machine → Machine → List ℕ → List ℕ
claims y z l =
    let m = op_word z (current y) in if leb 2 m && not (eqb m (op_word y (current y))) then ((m - 2) ∷ l) else l

-- the bucket has a new version, made by the operation of the old one
unfoldable pub installs : Machine → Machine → List ℕ → List ℕ
installs y z l = if eqb (current y) (current z) then l else ((op_word y (current y) - 2) ∷ l)

-- ---- all events

pub record History : Type 0 where
  pub machine : Machine
  pub last : ℕ → Started
  pub ended : List Ended
  pub claimed : List ℕ
  pub installed : List ℕ

-- after one more event, the n-th
unfoldable pub extended : ℕ → History → Event → Reply → History
extended n s e m =
    record {
      machine = m.machine;
      last = note n s.last e m.out;
      ended = tell n s.last s.ended e m.out m.machine;
      claimed = claims s.machine m.machine s.claimed;
      installed = installs s.machine m.machine s.installed;
    }

unfoldable pub history_from : ℕ → History → List Event → History
history_from n s [] = s
history_from n s (e ∷ es) = history_from (suc n) (extended n s e (event s.machine e)) es

-- before the first event nothing has happened
abbrev pub no_history : Machine → History
no_history y = record { machine = y; last = λ p. record { call = freeze; start = 0 }; ended = []; claimed = []; installed = [] }

unfoldable pub history : ℕ → List ℕ → List Event → History
history t ws es = history_from 0 (no_history (opening t ws).machine) es
