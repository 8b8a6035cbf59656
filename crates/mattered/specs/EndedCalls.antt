-- "the list of ended calls, each as task, call, tag and answer in order of ending" (paper 02, U13), of all five calls: `ended_calls`, and
-- when two such lists are the same. "Own steps and final memory are not compared": they are no part of an ended call. Assumes nothing.
use Rattle.std.specs.Prelude.{ℕ, List, [], ◌∷◌, ◌++◌, Bool, true, false, ◌&&◌, eqb, Ok, Err}
use Rattle.spec.specs.declared.Task.{Task}
use Rattle.spec.specs.Outputs.{Output}
use Rattle.spec.specs.declared.Progress.TheVariants.{At, End}
use Rattle.spec.specs.Numbers.{answer_number}
use Rattle.spec.specs.Machine.{Machine, task_of}
use Rattle.spec.specs.Schedule.{Event, event}
use Rattle.session.specs.Transcript.{task_in}

-- the call by the number that a task's record keeps, the answer by its number (`call_number` and `answer_number` of Numbers in spec)
pub record EndedCall : Type 0 where
  pub task : ℕ
  pub call : ℕ
  pub tag : ℕ
  pub answer : ℕ

-- "the accepted step that ends it gives its answer" (paper 01): what an output adds for task k, whose record before was c. The record has
-- the call and the tag of the accepted start
unfoldable pub ended_by : ℕ → Task → Output → List EndedCall
ended_by k c (Ok (At l)) = []
ended_by k c (Ok (End a own full)) = record { task = k; call = c.call; tag = c.tag; answer = answer_number a } ∷ []
ended_by k c (Err r) = []

-- the calls that end while the events are run, in order of ending
unfoldable pub ended_calls : Machine → List Event → List EndedCall
ended_calls y [] = []
ended_calls y (e ∷ es) =
    let m = event y e in
    ended_by (task_in e) (task_of y (task_in e)) m.out ++ ended_calls m.machine es

-- ---- two lists compared, call by call

unfoldable pub same_call : EndedCall → EndedCall → Bool
same_call a b = eqb a.task b.task && eqb a.call b.call && eqb a.tag b.tag && eqb a.answer b.answer

unfoldable pub same_calls : List EndedCall → List EndedCall → Bool
same_calls [] [] = true
same_calls [] (b ∷ ys) = false
same_calls (a ∷ xs) [] = false
same_calls (a ∷ xs) (b ∷ ys) = same_call a b && same_calls xs ys
