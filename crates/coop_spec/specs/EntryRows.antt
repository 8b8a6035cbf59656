-- What a start answers where an operation's type, tag or response is asked for; memory that is spoilt; and 7 of a step. The machine is that of
-- LineRows. Further rows of each are in the crate `coop_cases`. Assumes nothing.
use Rattle.std.specs.Prelude.{ℕ, ◌≡◌, refl, List, [], ◌∷◌, map, true, false, Ok, Err}
use Rattle.coop_spec.specs.declared.Call.{Call}
use Rattle.coop_spec.specs.declared.Call.TheVariants.{InvokeInsert, InvokeRemove, GetResponse}
use Rattle.coop_spec.specs.Outputs.{Output}
use Rattle.coop_spec.specs.declared.Progress.TheVariants.{At}
use Rattle.coop_spec.specs.declared.Task.{Task}
use Rattle.coop_spec.specs.Machine.{set_task}
use Rattle.coop_spec.specs.Words.{Write, set_op, set_done, set_returned}
use Rattle.coop_spec.specs.Sound.{sound}
use Rattle.coop_spec.specs.Entries.{start, step}
use Rattle.coop_spec.specs.Everything.{everything}
use Rattle.coop_spec.specs.LineRows.{after, task, frz, has, op_in, done, second}
use Rattle.coop_spec.specs.declared.Refusal.TheVariants.{NotStarted, NoVersion}

-- ---- starts of task 0: operation 0 is an insert of tag 5

pub record Start : Type 0 where
  pub before : List Write
  pub call : Call
  pub tag : ℕ
  pub answer : Output

unfoldable pub asked : List Write → Call → ℕ → Output → Start
asked ws call tag out = record { before = ws; call = call; tag = tag; answer = out }

unfoldable pub answered : Start → Output
answered s = (start (after s.before) 0 s.call 0 s.tag).out

-- another tag, another type; a response before an invoke has ended with yes
unfoldable pub start_rows : List Start
start_rows =
    asked [] InvokeInsert 5 (Ok (At 95)) ∷ asked [] InvokeInsert 6 (Err NotStarted) ∷ asked [] InvokeRemove 5 (Err NotStarted)
    ∷ asked done GetResponse 0 (Err NotStarted) ∷ asked (set_done 0 ∷ set_returned 0 ∷ []) GetResponse 0 (Ok (At 117)) ∷ []

pub start_rows_hold : map answered start_rows ≡ map (λ s. s.answer) start_rows
unfolding everything after op_in done start_rows asked answered
start_rows_hold = refl

-- ---- spoilt memory: operation 1 was never invoked

pub sound_rows : map (λ ws. sound (after ws)) (op_in ∷ (set_op 0 3 ∷ []) ∷ []) ≡ true ∷ false ∷ []
unfolding everything after op_in
sound_rows = refl

-- ---- 7: task 0 names version 0 and the bucket has version 1, so that both are held

unfoldable pub steps_from : Task → Output
steps_from c = (step (set_task 1 c (set_task 0 (has 5 113 1) (after second))) 1).out

-- at line 140, but only if the bucket still has o
pub held_rows : map steps_from (frz 140 126 2 1 ∷ frz 140 126 1 1 ∷ []) ≡ Err NoVersion ∷ Ok (At 120) ∷ []
unfolding everything after task frz has second steps_from
held_rows = refl
