-- What no event changes, whatever the words: T, the number of versions, and, once an invoke has fixed them, an operation's type and tag
-- ("The first invoke of a number fixes its type and tag"). Assumes nothing.
use Rattle.std.specs.Prelude.{◌+◌, ◌<◌, min, ℕ, ◌||◌, false, not, true, List, [], ◌∷◌, ◌≡◌, refl, eqb, ltb, get_or, length, set}
use Rattle.std.proofs.Common.{inl, inr, ◌∙◌, ap, sym, arith, eqb-true, length-set}
use Rattle.std.proofs.Math.Decide.{dec_lt}
use Rattle.std.proofs.lemmas.Bool.{not-false}
use Rattle.std.proofs.Math.Seq.{set_out}
use Rattle.laws.specs.Tests.{At, and_left, and_right, choose, hit, miss, or_e, or_none}
use Rattle.coop_spec.specs.Atomic.{Operations}
use Rattle.coop_spec.specs.Entries.{Reply, accept, finish, fits_type, fixing, may_start, refuse, start, started, step, step_running}
use Rattle.coop_spec.specs.History.{operations}
use Rattle.coop_spec.specs.Lines.{Effect, Next, effect, ends, on}
use Rattle.coop_spec.specs.Machine.{Machine, as_done, as_returned, never_invoked, operation_of, set_operation, set_task, task_of}
use Rattle.coop_spec.specs.Machine.{with_flag, with_node, with_operations, with_resp, with_state, with_task, with_type, with_versions}
use Rattle.coop_spec.specs.Schedule.{Event, event, starts, steps}
use Rattle.coop_spec.specs.Sound.{sound}
use Rattle.coop_spec.specs.StepRefusals.{all_held, unsound_step}
use Rattle.coop_spec.specs.Words.{Write, apply, apply_all, install, raise_flag, set_done, set_op, set_resp, set_returned}
use Rattle.coop_spec.specs.declared.Call.{Call}
use Rattle.coop_spec.specs.declared.Call.TheVariants.{Freeze, GetResponse, HasMember, InvokeInsert, InvokeRemove}
use Rattle.coop_spec.specs.declared.Operation.{Operation}
use Rattle.coop_spec.specs.declared.Task.{Task}
use Rattle.coop_laws.specs.FactsKept.{operation_after}

-- the operation p has the type and tag of q, if q was invoked
abbrev pub SameType : Operation → Operation → Type 0
SameType q p = ¬ (q.kind ≡ 0) → (p.kind ≡ q.kind) × (p.tag ≡ q.tag)

pub record Fixed (y z : Machine) : Type 0 where
  pub tasks≡ : z.state.tasks ≡ y.state.tasks
  pub versions≡ : z.state.versions ≡ y.state.versions
  pub operations≡ : length z.state.operation ≡ length y.state.operation
  pub type_stays : (n : ℕ) → SameType (operation_of y n) (operation_of z n)

pub fixed_refl : (y : Machine) → Fixed y y
fixed_refl y = record { tasks≡ = refl; versions≡ = refl; operations≡ = refl; type_stays = λ n d. (refl, refl) }

pub fixed_trans : {x y z : Machine} → Fixed x y → Fixed y z → Fixed x z
fixed_trans a b = record {
  tasks≡ = b.tasks≡ ∙ a.tasks≡;
  versions≡ = b.versions≡ ∙ a.versions≡;
  operations≡ = b.operations≡ ∙ a.operations≡;
  type_stays = λ n d. let p = a.type_stays n d in let q = b.type_stays n (λ e. d (sym p.0 ∙ e)) in (q.0 ∙ p.0, q.1 ∙ p.1);
}

-- ---- an operation replaced by one of the same type, or where none was invoked

operation_fixed : (y : Machine) (n : ℕ) (q : Operation) → SameType (operation_of y n) q → Fixed y (set_operation n q y)
unfolding operation_of set_operation with_operations with_state
operation_fixed y n q s = record {
  tasks≡ = refl;
  versions≡ = refl;
  operations≡ = length-set y.state.operation n q;
  type_stays = λ m. go m (dec_lt n (length y.state.operation));
}
  where
    old : ℕ → Operation
    old m = get_or y.state.operation m never_invoked

    go : (m : ℕ) → Dec (n < length y.state.operation) → SameType (old m) (get_or (set y.state.operation n q) m never_invoked)
    go m (no a) = rw (set_out y.state.operation n q (omega arith)) (λ d. (refl, refl))
    go m (yes a) = at (operation_after y n q a m)
      where
        at : At (m ≡ n) q (old m) (get_or (set y.state.operation n q) m never_invoked)
            → SameType (old m) (get_or (set y.state.operation n q) m never_invoked)
        at (hit e f) = rw (f, e) s
        at (miss e f) = rw f (λ d. (refl, refl))

-- ---- writes: none touches a type

write_fixed : (y : Machine) (x : Write) → Fixed y (apply x y)
unfolding apply with_flag with_versions with_node with_state operation_of with_resp as_done as_returned
write_fixed y raise_flag = record { tasks≡ = refl; versions≡ = refl; operations≡ = refl; type_stays = λ n d. (refl, refl) }
write_fixed y (set_op j m) = record { tasks≡ = refl; versions≡ = refl; operations≡ = refl; type_stays = λ n d. (refl, refl) }
write_fixed y (set_resp n b) = operation_fixed y n _ (λ d. (refl, refl))
write_fixed y (set_done n) = operation_fixed y n _ (λ d. (refl, refl))
write_fixed y (set_returned n) = operation_fixed y n _ (λ d. (refl, refl))
write_fixed y (install j S) = record { tasks≡ = refl; versions≡ = refl; operations≡ = refl; type_stays = λ n d. (refl, refl) }

writes_fixed : (y : Machine) (xs : List Write) → Fixed y (apply_all xs y)
unfolding apply_all
writes_fixed y [] = fixed_refl y
writes_fixed y (x ∷ xs) = fixed_trans (write_fixed y x) (writes_fixed (apply x y) xs)

-- ---- entries

task_fixed : (y : Machine) (p : ℕ) (c : Task) → Fixed y (set_task p c y)
unfolding set_task with_task with_state operation_of
task_fixed y p c = record { tasks≡ = refl; versions≡ = refl; operations≡ = refl; type_stays = λ n d. (refl, refl) }

accept_fixed : (y : Machine) (p own : ℕ) (e : Effect) → Fixed y (accept y p own e).machine
unfolding accept finish
accept_fixed y p own e = fixed_trans (writes_fixed y e.writes) (go (apply_all e.writes y) e.next)
  where
    go : (z : Machine) (n : Next) → Fixed z (finish z p (min (own + 1) 65535) n).machine
    go z (on c) = task_fixed z p _
    go z (ends a) = task_fixed z p _

step_fixed : (y : Machine) (p : ℕ) → Fixed y (step y p).machine
unfolding step step_running refuse
step_fixed y p =
    choose P (not (sound y)) _ _ (λ t. fixed_refl y)
    (λ t. choose P (not (ltb p y.state.tasks)) _ _ (λ t. fixed_refl y)
    (λ t. choose P (not (task_of y p).running) _ _ (λ t. fixed_refl y)
    (λ t. choose P (unsound_step y (task_of y p)) _ _ (λ t. fixed_refl y)
    (λ t. choose P (all_held y (task_of y p)) _ _ (λ t. fixed_refl y)
    (λ t. accept_fixed y p (task_of y p).own (effect y (task_of y p)))))))
  where
    P : Reply → Type 0
    P r = Fixed y r.machine

-- an invoke that may start has its operation's type and tag
fits_same : (q : Operation) (kind tag : ℕ) → fits_type q kind tag ≡ true → ¬ (q.kind ≡ 0) → (kind ≡ q.kind) × (tag ≡ q.tag)
unfolding fits_type
fits_same q kind tag e d = elim (or_e (eqb q.kind 0) _ e) [
  | inl a ↦ absurd (d (eqb-true q.kind 0 a))
  | inr a ↦ (sym (eqb-true q.kind kind (and_left (eqb q.kind kind) _ a)), sym (eqb-true q.tag tag (and_right (eqb q.kind kind) _ a)))
]

fixing_fixed : (y : Machine) (call : Call) (n k : ℕ) → may_start y call n k ≡ true → Fixed y (fixing y call n k)
unfolding may_start fixing with_type
fixing_fixed y InvokeInsert n k e = operation_fixed y n _ (fits_same (operation_of y n) 1 k (and_right (ltb n 64) _ e))
fixing_fixed y InvokeRemove n k e = operation_fixed y n _ (fits_same (operation_of y n) 2 k (and_right (ltb n 64) _ e))
fixing_fixed y Freeze n k e = fixed_refl y
fixing_fixed y HasMember n k e = fixed_refl y
fixing_fixed y GetResponse n k e = fixed_refl y

start_fixed : (y : Machine) (p : ℕ) (call : Call) (n k : ℕ) → Fixed y (start y p call n k).machine
unfolding start refuse
start_fixed y p call n k =
    choose P (not (sound y)) _ _ (λ t. fixed_refl y)
    (λ t. choose P (not (ltb p y.state.tasks)) _ _ (λ t. fixed_refl y)
    (λ t. choose P ((task_of y p).running || not (may_start y call n k)) _ _ (λ t. fixed_refl y)
    (λ t. fixed_trans (fixing_fixed y call n k (allowed t)) (task_fixed (fixing y call n k) p (started call n k)))))
  where
    P : Reply → Type 0
    P r = Fixed y r.machine

    allowed : ((task_of y p).running || not (may_start y call n k)) ≡ false → may_start y call n k ≡ true
    allowed t = not-false (may_start y call n k) (or_none (task_of y p).running (not (may_start y call n k)) t).1

pub event_fixed : (y : Machine) (e : Event) → Fixed y (event y e).machine
unfolding event
event_fixed y (starts p call n k) = start_fixed y p call n k
event_fixed y (steps p) = step_fixed y p

-- ---- the types at the end of a schedule are those of every machine before it

abbrev pub Agrees : Operations → Machine → Type 0
Agrees T y = (n : ℕ) → ¬ ((operation_of y n).kind ≡ 0) → (eqb (operation_of y n).kind 1 ≡ T.inserts n) × ((operation_of y n).tag ≡ T.tag n)

pub agrees_before : (T : Operations) (y z : Machine) → Fixed y z → Agrees T z → Agrees T y
agrees_before T y z s a n d =
    let p = s.type_stays n d in
    let q = a n (λ e. d (sym p.0 ∙ e)) in
    (ap (λ (k : ℕ). eqb k 1) (sym p.0) ∙ q.0, sym p.1 ∙ q.1)

pub agrees_itself : (y : Machine) → Agrees (operations y) y
unfolding operations
agrees_itself y n d = (refl, refl)
