-- What a line gives back, as the definitions' reply: the answer, and the state with what the line changes of it and with what is left in both
-- pools. Assumes nothing.
use Rattle.std.specs.Prelude.{ℕ, ◌≡◌, List, Bool, false, ltb, set, if◌then◌else◌, Ok, Err}
use Rattle.spec.specs.declared.Refusal.{Refusal}
use Rattle.spec.specs.Entries.{Reply}
use Rattle.spec.specs.Machine.{machine_of, idle, state_head, state_last_node, state_last_bucket, state_task}
use Rattle.spec.specs.declared.State.{State}
use Rattle.spec.specs.Outputs.{Output}
use Rattle.spec.specs.declared.Progress.TheVariants.{At, End}
use Rattle.line_moves.specs.declared.Moved.{Moved}

-- a line gives what it may change of the state, which stays as it was after a refusal
unfoldable pub changes : Output → ℕ → Bool
changes (Ok (At l)) k = ltb k 8
changes (Ok (End a n full)) k = ltb k 8
changes (Err w) k = false

unfoldable pub settled : State → ℕ → Moved → State
settled s k m =
    if changes m.out k
    then state_task (set s.task k m.task) (state_last_bucket m.last_bucket (state_last_node m.last_node (state_head m.head s)))
    else s

abbrev pub moved_reply : State → ℕ → Moved → List ℕ → List ℕ → Reply
moved_reply s k m ns bs = record { out = m.out; machine = machine_of (settled s k m) ns bs }

-- what stands beside a refusal: the numbers of the state, and the record of a task that runs nothing
unfoldable pub refusal : State → Refusal → Moved
refusal s why = record { out = Err why; head = s.head; last_node = s.last_node; last_bucket = s.last_bucket; task = idle }

-- What a line gives over the state s, with what it leaves in both pools, is this reply. A refusal leaves nothing open.
pub record Gives (s : State) (k : ℕ) (m : Moved) (ns bs : List ℕ) (r : Reply) : Type 0 where
  pub reply : moved_reply s k m ns bs ≡ r
  pub refuses : (why : Refusal) → m.out ≡ Err why → m ≡ refusal s why
