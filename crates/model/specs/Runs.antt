-- Runs of the model: tasks start calls and take steps, in any order, from the heap that an opening makes. The ended inserts, removes
-- and contains are collected with the places of their start and end in the schedule. Assumes nothing.
use Rattle.std.specs.Prelude.{◌≡◌, Bool, false, List, [], ◌∷◌, ℕ, suc}
use Rattle.model.specs.Functions.{upd}
use Rattle.model.specs.PlaceState.{changeable}
use Rattle.model.specs.Heap.{Heap}
use Rattle.spec.specs.declared.Answer.{Answer}
use Rattle.spec.specs.declared.Call.{Call}
use Rattle.spec.specs.History.{Ended}
use Rattle.model.specs.Positions.{Position, no_call, lookup, at_12, update, at_32, resize, at_20}
use Rattle.model.specs.Lines.{Step, EndStep}

-- the first line of a call
pub data FirstPosition : Position → Type 0 where
  first_contains : (k : ℕ) → FirstPosition (lookup k at_12)
  first_update : (b : Bool) (k : ℕ) → FirstPosition (update b k at_32)
  first_resize : (b : Bool) → FirstPosition (resize b at_20)

-- the heap, each task's position and last start, the number of the next event, and the set calls that ended, the last first
pub record Configuration : Type 0 where
  pub heap : Heap
  pub position : ℕ → Position
  pub start : ℕ → ℕ
  pub clock : ℕ
  pub ended : List Ended

-- ---- where an event leads: it is refused; task p starts a call, takes a step, or takes the step that ends a set call

abbrev pub after_refusal : Configuration → Configuration
after_refusal w = record { heap = w.heap; position = w.position; start = w.start; clock = suc w.clock; ended = w.ended }

abbrev pub after_start : Configuration → ℕ → Position → Configuration
after_start w p l = record { heap = w.heap; position = upd w.position p l; start = upd w.start p w.clock; clock = suc w.clock; ended = w.ended }

abbrev pub after_step : Configuration → ℕ → Heap → Position → Configuration
after_step w p g l = record { heap = g; position = upd w.position p l; start = w.start; clock = suc w.clock; ended = w.ended }

abbrev pub ended_call : Configuration → ℕ → Call → ℕ → Answer → Ended
ended_call w p c k a = record { task = p; call = c; tag = k; answer = a; start = w.start p; end = w.clock }

abbrev pub after_end : Configuration → ℕ → Call → ℕ → Heap → Answer → Configuration
after_end w p c k g a =
    record { heap = g; position = upd w.position p no_call; start = w.start; clock = suc w.clock; ended = ended_call w p c k a ∷ w.ended }

pub data Transition (w : Configuration) : Configuration → Type 0 where
  refused : Transition w (after_refusal w)
  begins : (p : ℕ) (l : Position) → FirstPosition l → w.position p ≡ no_call → Transition w (after_start w p l)
  steps_on : (p : ℕ) {l l' : Position} {g : Heap} → w.position p ≡ l → Step w.heap l g l' → Transition w (after_step w p g l')
  ends_set_call : (p : ℕ) {l : Position} {c : Call} {k : ℕ} {g : Heap} {a : Answer} → w.position p ≡ l → EndStep w.heap l c k g a
      → Transition w (after_end w p c k g a)

-- ---- runs

-- opened: node 0 of size 1 with an empty bucket in place
abbrev pub opened : (ℕ → ℕ) → Heap
opened key = record { head = 0; linked = false; size = λ x. 1; key = key; place = λ x i. changeable; has = λ x k. false }

abbrev pub initial : (ℕ → ℕ) → Configuration
initial key = record { heap = opened key; position = λ p. no_call; start = λ p. 0; clock = 0; ended = [] }

pub data Reachable : Configuration → Type 0 where
  initially : (key : ℕ → ℕ) → Reachable (initial key)
  further : {v w : Configuration} → Reachable v → Transition v w → Reachable w
