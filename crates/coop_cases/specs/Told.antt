-- What is told of a schedule, and an order of its calls that the atomic bucket answers. Tasks 0 and 1 finish operation 0 together, while a
-- second start of task 0 is refused; task 1's operation 1 follows, task 0 freezes the bucket, and an invoke still runs. Assumes nothing.
use Rattle.std.specs.Prelude.{ℕ, ◌≡◌, refl, List, [], ◌∷◌, ◌++◌, true, false, replicate}
use Rattle.std.proofs.Common.{arith}
use Rattle.coop_spec.specs.declared.Call.TheVariants.{InvokeInsert, Freeze, GetResponse}
use Rattle.coop_spec.specs.Atomic.{invoke, freeze, get_response, boolean, tag_set, empty_bucket}
use Rattle.coop_spec.specs.History.{History, Occurrence, operations, history}
use Rattle.coop_spec.specs.Linearizable.{Answers, EachOnce, In, Timely, here, there}
use Rattle.coop_spec.specs.Everything.{everything}
use Rattle.coop_spec.specs.Rows.{stepping, calling}
use Rattle.coop_spec.specs.ToldRows.{ended_call, called, invoked}

unfoldable pub told : History
told =
    history 2 (replicate 198 7) (
    calling 0 InvokeInsert 0 5 10 ++ calling 0 Freeze 0 0 0 ++ calling 1 InvokeInsert 1 6 9 ++ stepping 0 1 ++ stepping 1 11
    ++ calling 0 GetResponse 0 0 1 ++ calling 0 Freeze 0 0 6 ++ calling 1 InvokeInsert 2 7 1
    )

pub calls_told : told.ended
    ≡ ended_call 0 36 freeze (tag_set (5 ∷ 6 ∷ [])) 42 ∷ ended_call 0 34 (get_response 0) (boolean true) 35
    ∷ ended_call 1 12 (invoke 1) (boolean true) 33 ∷ ended_call 0 0 (invoke 0) (boolean true) 22 ∷ []
unfolding everything stepping calling told
calls_told = refl

pub effects_told : (told.claimed ≡ 1 ∷ 0 ∷ []) × (told.installed ≡ 1 ∷ 0 ∷ [])
unfolding everything stepping calling told
effects_told = (refl, refl)

-- the atomic bucket gives these answers in the order in which the operations took effect, and no to the invoke that still runs
unfoldable pub order : List Occurrence
order =
    called 0 0 (invoke 0) (boolean true) ∷ called 1 12 (invoke 1) (boolean true) ∷ called 0 34 (get_response 0) (boolean true)
    ∷ called 0 36 freeze (tag_set (5 ∷ 6 ∷ [])) ∷ called 1 43 (invoke 2) (boolean false) ∷ []

pub order_answers : Answers (operations told.machine) empty_bucket order
unfolding everything stepping calling told order
order_answers = (refl, (refl, (refl, (refl, (refl, tt)))))

-- ---- orders that are none

-- operation 0's response is asked after its invoke ended: it cannot stand before it
pub untimely : ¬ Timely told.ended (called 0 34 (get_response 0) (boolean true) ∷ called 0 0 (invoke 0) (boolean true) ∷ [])
untimely t =
    let first : In (ended_call 0 0 (invoke 0) (boolean true) 22) told.ended = rw calls_told (there (there (there here))) in
    let late = t.0.0 (ended_call 0 0 (invoke 0) (boolean true) 22) first (refl, refl) in
    omega arith

-- nor does the atomic bucket give its answer there, nor let an invoke after a freeze take effect
pub wrong_answer : ¬ Answers (operations invoked) empty_bucket (called 0 34 (get_response 0) (boolean true) ∷ [])
unfolding everything stepping calling invoked
wrong_answer a = let z : ◌≡◌ {A = ℕ} 0 1 = cc in omega arith

pub after_the_freeze : ¬ Answers (operations invoked) empty_bucket
    (called 0 36 freeze (tag_set []) ∷ called 1 43 (invoke 0) (boolean true) ∷ [])
unfolding everything stepping calling invoked
after_the_freeze (_, (a, _)) = let z : ◌≡◌ {A = ℕ} 0 1 = cc in omega arith

-- nor does a call stand in it twice
pub twice : ¬ EachOnce (called 0 0 (invoke 0) (boolean true) ∷ called 0 0 (invoke 0) (boolean true) ∷ [])
twice o = o.0.0 (refl, refl)
