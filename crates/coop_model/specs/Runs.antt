-- Runs of the model: starts, lines and refused events from the first configuration on. Assumes nothing.
use Rattle.std.specs.Prelude.{◌<◌, suc, ℕ, false, true, List, [], ◌∷◌, ◌≡◌}
use Rattle.coop_spec.specs.Atomic.{AtomicCall, Operations, Result, changed}
use Rattle.coop_spec.specs.History.{Ended}
use Rattle.coop_model.specs.Heap.{Heap, bottom, nil, op, put_op}
use Rattle.coop_model.specs.Lines.{End, Line}
use Rattle.coop_model.specs.Positions.{Position, Role, at102, at109, at123, at127, at129, at95, freezer, invoker, member_112, no_call}
use Rattle.coop_model.specs.Positions.{response_117, running, to103}

-- the first line of a call
pub data First (h : Heap) : Position → Type 0 where
  first_invoke : (n : ℕ) → n < 64 → First h (running (invoker n) at95)
  first_freeze : First h (running freezer at109)
  first_has : (k : ℕ) → First h (member_112 k)
  first_response : (n : ℕ) → h.returned n ≡ true → First h (response_117 n)

pub record Configuration : Type 0 where
  pub heap : Heap
  pub position : ℕ → Position
  pub start : ℕ → ℕ
  pub clock : ℕ
  pub ended : List Ended

abbrev pub moved : Configuration → ℕ → Heap → Position → Configuration
moved w p g l = record { heap = g; position = changed w.position p l; start = w.start; clock = suc w.clock; ended = w.ended }

-- task p has started a call
abbrev pub after_start : Configuration → ℕ → Position → Configuration
after_start w p l =
    record { heap = w.heap; position = changed w.position p l; start = changed w.start p w.clock; clock = suc w.clock; ended = w.ended }

-- an event was refused
abbrev pub after_refusal : Configuration → Configuration
after_refusal w = record { heap = w.heap; position = w.position; start = w.start; clock = suc w.clock; ended = w.ended }

-- task p's call has ended
abbrev pub after_end : Configuration → ℕ → Heap → AtomicCall → Result → Configuration
after_end w p g c a = record {
  heap = g;
  position = changed w.position p no_call;
  start = w.start;
  clock = suc w.clock;
  ended = record { occurrence = record { task = p; start = w.start p; call = c; result = a }; end = w.clock } ∷ w.ended;
}

module _ (T : Operations) where
  pub data Transition (w : Configuration) : Configuration → Type 0 where
    refused : Transition w (after_refusal w)
    begin : (p : ℕ) (l : Position) → First w.heap l → w.position p ≡ no_call → Transition w (after_start w p l)
    move : (p : ℕ) {l l' : Position} {g : Heap} → w.position p ≡ l → Line T w.heap l g l' → Transition w (moved w p g l')
    -- line 102 puts the operation in; line 123 freezes
    claim : (p n o : ℕ) → w.position p ≡ running (invoker n) (at102 n o) → w.heap.op_at o ≡ nil
        → Transition w (moved w p (put_op o (op n) w.heap) (running (invoker n) (at129 (to103 n))))
    seal : (p o : ℕ) (j : Role) → w.position p ≡ running j (at123 o) → w.heap.op_at o ≡ nil
        → Transition w (moved w p (put_op o bottom w.heap) (running j at127))
    end_call : (p : ℕ) {l : Position} {g : Heap} {c : AtomicCall} {a : Result} → w.position p ≡ l → End T w.heap l g c a
        → Transition w (after_end w p g c a)

abbrev pub first_heap : Heap
first_heap = record { current = 0; flag = false; set = λ v. []; op_at = λ v. nil; resp = λ n. false; done = λ n. false; returned = λ n. false }

abbrev pub first_configuration : Configuration
first_configuration = record { heap = first_heap; position = λ p. no_call; start = λ p. 0; clock = 0; ended = [] }

pub data Reachable (T : Operations) : Configuration → Type 0 where
  opened : Reachable T first_configuration
  further : {v w : Configuration} → Reachable T v → Transition T v w → Reachable T w
