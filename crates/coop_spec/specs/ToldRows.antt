-- What is told of a schedule of two member tests, and orders of calls: one that the atomic bucket answers, one out of real time. A longer
-- schedule, its order and further orders that are none are in the crate `coop_cases`. Assumes nothing.
use Rattle.std.specs.Prelude.{ℕ, ◌≡◌, refl, [], ◌∷◌, ◌++◌, true, false, replicate}
use Rattle.std.proofs.Common.{arith}
use Rattle.coop_spec.specs.declared.Call.TheVariants.{InvokeInsert, HasMember}
use Rattle.coop_spec.specs.Machine.{Machine}
use Rattle.coop_spec.specs.Entries.{opening}
use Rattle.coop_spec.specs.Schedule.{run}
use Rattle.coop_spec.specs.Atomic.{AtomicCall, invoke, has_member, get_response, Result, boolean, empty_bucket}
use Rattle.coop_spec.specs.History.{History, Ended, Occurrence, operations, history}
use Rattle.coop_spec.specs.Linearizable.{Answers, Timely, here}
use Rattle.coop_spec.specs.Everything.{everything}
use Rattle.coop_spec.specs.Rows.{stepping, calling}

abbrev pub ended_call : ℕ → ℕ → AtomicCall → Result → ℕ → Ended
ended_call p start call result end = record { occurrence = record { task = p; start = start; call = call; result = result }; end = end }

abbrev pub called : ℕ → ℕ → AtomicCall → Result → Occurrence
called p start call result = record { task = p; start = start; call = call; result = result }

-- task 0 tests for tag 5, then for tag 6
unfoldable pub tested : History
tested = history 1 (replicate 66 7) (calling 0 HasMember 0 5 2 ++ calling 0 HasMember 0 6 2)

pub tests_told : tested.ended
    ≡ ended_call 0 3 (has_member 6) (boolean false) 5 ∷ ended_call 0 0 (has_member 5) (boolean false) 2 ∷ []
unfolding everything stepping calling tested
tests_told = refl

-- operation 0, an insert of 5, has been invoked
unfoldable pub invoked : Machine
invoked = (run (opening 2 (replicate 66 7)).machine (calling 0 InvokeInsert 0 5 0)).machine

-- a second invoke of operation 0 is told yes and does nothing: its response stays what it was
pub again_answers : Answers (operations invoked) empty_bucket
    (called 0 0 (invoke 0) (boolean true) ∷ called 1 1 (invoke 0) (boolean true) ∷ called 0 2 (get_response 0) (boolean true) ∷ [])
unfolding everything stepping calling invoked
again_answers = (refl, (refl, (refl, tt)))

-- of three tests the third ended before the first started; the second overlaps both
pub first_and_third :
    ¬ Timely (ended_call 2 1 (has_member 9) (boolean false) 5 ∷ [])
    (called 0 6 (has_member 9) (boolean false) ∷ called 1 0 (has_member 9) (boolean false) ∷ called 2 1 (has_member 9) (boolean false) ∷ [])
first_and_third t = let late = t.0.1.0 (ended_call 2 1 (has_member 9) (boolean false) 5) here (refl, refl) in omega arith
