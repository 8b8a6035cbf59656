-- An accepted start of the words is a start of the model, and the words go on simulating it. Assumes nothing.
use Rattle.std.specs.Prelude.{◌*◌, ◌<◌, ◌≤◌, ℕ, Bool, false, ltb, length, if◌then◌else◌}
use Rattle.std.proofs.Math.Bool.{true}
use mathlib.Core.List.{List}
use Rattle.std.proofs.Common.{inl, ◌∙◌, le_refl, arith, ltb-true}
use Rattle.std.proofs.Math.Path.{◌≡◌, ap, refl, subst, sym}
use Rattle.std.proofs.Math.Dec.{eqb}
use Rattle.std.proofs.Math.ListN.{get_or, length-set}
use Rattle.laws.specs.Tests.{and_left, and_right, at_hit, hit, miss}
use Rattle.coop_spec.specs.Atomic.{Operations, changed, get_response, invoke, invoked}
use Rattle.coop_spec.specs.Entries.{fixing, may_start, started}
use Rattle.coop_spec.specs.History.{atomic_call}
use Rattle.coop_spec.specs.Machine.{Machine, fresh_task, operation_of, set_operation, set_task, with_operations, with_state, with_task, with_type}
use Rattle.coop_spec.specs.Words.{current, op_word, tags_of}
use Rattle.coop_spec.specs.declared.Call.{Call}
use Rattle.coop_spec.specs.declared.Call.TheVariants.{Freeze, GetResponse, HasMember, InvokeInsert, InvokeRemove}
use Rattle.coop_spec.specs.declared.Operation.{Operation}
use Rattle.coop_spec.specs.declared.Task.{Task}
use Rattle.coop_linear.specs.Effects.{Effects, no_effects}
use Rattle.coop_laws.specs.FactsKept.{StillInvoked, operation_after, operation_kept, operation_still}
use Rattle.coop_model.specs.Heap.{Heap}
use Rattle.coop_linear.specs.Named.{Known, Names}
use Rattle.coop_model.specs.Positions.{Position, at109, at95, call_at, freezer, invoker, member_112, no_call, response_117, running, runs}
use Rattle.coop_linear.specs.Represents.{Represents}
use Rattle.coop_model.specs.Runs.{Configuration, First, Transition, after_start, begin, first_freeze, first_has, first_invoke, first_response}
use Rattle.coop_linear.specs.Settled.{known_moved, known_same, settled}
use Rattle.coop_linear.specs.Shapes.{Shape}
use Rattle.coop_linear.specs.Simulates.{Simulates}
use Rattle.coop_laws.specs.SoundFacts.{MemoryFacts}
use Rattle.coop_linear.specs.TaskImages.{task_image}
use Rattle.coop_laws.specs.Fixed.{Agrees}
use Rattle.coop_linear.specs.WritesRepresented.{fewer_known}

-- the first position of a call
abbrev pub first_position : Call → ℕ → ℕ → Position
first_position InvokeInsert n k = running (invoker n) at95
first_position InvokeRemove n k = running (invoker n) at95
first_position Freeze n k = running freezer at109
first_position HasMember n k = member_112 k
first_position GetResponse n k = response_117 n

pub first_call : (call : Call) (n k : ℕ) → call_at (first_position call n k) ≡ runs (atomic_call call n k)
unfolding atomic_call
first_call InvokeInsert n k = refl
first_call InvokeRemove n k = refl
first_call Freeze n k = refl
first_call HasMember n k = refl
first_call GetResponse n k = refl

first_names : (call : Call) (n k v : ℕ) → ¬ Names (first_position call n k) v
first_names InvokeInsert n k v x = x
first_names InvokeRemove n k v x = x
first_names Freeze n k v x = x
first_names HasMember n k v x = x
first_names GetResponse n k v x = x

invoke_same : {n m : ℕ} → runs (invoke n) ≡ runs (invoke m) → n ≡ m
invoke_same e = cc

get_same : {n m : ℕ} → runs (get_response n) ≡ runs (get_response m) → n ≡ m
get_same e = cc

-- ---- an operation's type fixed

module _ {T : Operations} {y : Machine} {h : Heap} {K : ℕ → Type 0} {slot : ℕ → ℕ} (rep : Represents T y h K slot) (memory : MemoryFacts y) (n : ℕ)
    (small : n < 64) (kind tag : ℕ)
    (some-kind : ¬ (kind ≡ 0)) (known : kind ≤ 2)
    (agrees : Agrees T (set_operation n (with_type kind tag (operation_of y n)) y)) where
  abbrev typed : Operation
  typed = with_type kind tag (operation_of y n)

  in_table : n < length y.state.operation
  in_table = let a = rep.operations_64 in omega arith

  same_part : {A : Type 0} (f : Operation → A) → f (with_type kind tag (operation_of y n)) ≡ f (operation_of y n) → (m : ℕ)
      → f (operation_of (set_operation n (with_type kind tag (operation_of y n)) y) m) ≡ f (operation_of y m)
  same_part f e m = elim (operation_after y n (with_type kind tag (operation_of y n)) in_table m)
      [ hit q g ↦ ap f g ∙ e ∙ ap (λ (k : ℕ). f (operation_of y k)) (sym q) | miss d g ↦ ap f g ]

  pub typed_memory : MemoryFacts (set_operation n (with_type kind tag (operation_of y n)) y)
  unfolding with_type
  typed_memory = operation_kept memory n (with_type kind tag (operation_of y n)) in_table some-kind known

  pub typed_still : StillInvoked y (set_operation n (with_type kind tag (operation_of y n)) y)
  unfolding with_type
  typed_still = operation_still memory n (with_type kind tag (operation_of y n)) in_table some-kind known

  pub typed_kind : (operation_of (set_operation n (with_type kind tag (operation_of y n)) y) n).kind ≡ kind
  unfolding with_type
  typed_kind = ap (λ (q : Operation). q.kind) (at_hit refl (operation_after y n (with_type kind tag (operation_of y n)) in_table n))

  pub typed_represented : Represents T (set_operation n (with_type kind tag (operation_of y n)) y) h K slot
  unfolding set_operation with_operations with_state with_type op_word tags_of
  typed_represented = record {
    same_node = rep.same_node;
    same_flag = rep.same_flag;
    same_resp = λ m. same_part (λ q. q.resp) refl m ∙ rep.same_resp m;
    same_done = λ m. same_part (λ q. q.done) refl m ∙ rep.same_done m;
    types = agrees;
    in_use = λ v m e. typed_still m (rep.in_use v m e);
    same_op = rep.same_op;
    same_set = rep.same_set;
    apart = rep.apart;
    has_current = rep.has_current;
    same_returned = λ m. same_part (λ q. q.returned) refl m ∙ rep.same_returned m;
    below = rep.below;
    few_in = rep.few_in;
    length_right = rep.length_right;
    operations_64 = length-set y.state.operation n (with_type kind tag (operation_of y n)) ∙ rep.operations_64;
  }

-- ---- the start of a call

kind_inserts : (b : Bool) → b ≡ true → ◌≡◌ {A = ℕ} 1 (if b then 1 else 2)
kind_inserts b e = rw e

kind_removes : (b : Bool) → b ≡ false → ◌≡◌ {A = ℕ} 2 (if b then 1 else 2)
kind_removes b e = rw e

pub record StartSimulated (T : Operations) (y : Machine) (w : Configuration) (p : ℕ) (l : Position) (z : Machine) : Type 0 where
  pub to : Transition T w (after_start w p l)
  pub sim : Simulates T z w.heap (changed w.position p l)
  pub effects : Effects y z w.heap w.heap

module _ {T : Operations} {y : Machine} {w : Configuration} (sim : Simulates T y w.heap w.position) (p : ℕ) (idle≡ : w.position p ≡ no_call)
    (below : p < y.state.tasks) where
  -- from a machine z in which the call's operation is fixed
  begins : (l : Position) (z : Machine) (c : Task) → First w.heap l
      → Represents T z w.heap (Known w.heap.current w.position) sim.slot → MemoryFacts z
      → z.state.task ≡ y.state.task → z.state.tasks ≡ y.state.tasks → z.versions ≡ y.versions
      → z.state.node ≡ y.state.node → StillInvoked y z → Shape l → ((v : ℕ) → ¬ Names l v)
      → ((n : ℕ) → call_at l ≡ runs (invoke n) → ¬ ((operation_of z n).kind ≡ 0))
      → ((n : ℕ) → call_at l ≡ runs (get_response n) → w.heap.returned n ≡ true)
      → c ≡ task_image T sim.slot 0 l → StartSimulated T y w p l (set_task p c z)
  unfolding set_task with_task with_state op_word
  begins l z c first rep memory task≡ tasks≡ versions≡ node≡ still shape names invoked asked is = record {
    to = begin p l first idle≡;
    sim = settled sim p l sim.slot 0
        (fewer_known rep (Known w.heap.current (changed w.position p l)) (λ v k. known_same w.heap.current w.position v
        (known_moved w.position p l (λ v n. absurd (names v n)) v k)) (inl refl))
        memory task≡ tasks≡ (λ q v d n. refl) still (λ n e. e) shape below invoked asked c is;
    effects = no_effects (λ v m e. e) (le_refl _) (sym node≡) (ap (λ (l : List ℕ). get_or l (66 * current y) 0) versions≡);
  }

  -- an invoke, of the kind that its call has
  invoke_begins : (kind n k : ℕ) → ¬ (kind ≡ 0) → kind ≤ 2 → n < 64 → Agrees T (set_operation n (with_type kind k (operation_of y n)) y)
      → (T.inserts n ≡ eqb kind 1 → kind ≡ (if T.inserts n then 1 else 2))
      → StartSimulated T y w p (running (invoker n) at95) (set_task p (fresh_task kind n 0 95) (set_operation n (with_type kind k (operation_of y n)) y))
  unfolding fresh_task set_operation with_operations with_state
  invoke_begins kind n k d b small agrees number =
      let z = set_operation n (with_type kind k (operation_of y n)) y in
      let e = typed_kind sim.rep sim.memory n small kind k d b agrees in
      let ins : T.inserts n ≡ eqb kind 1 = sym (agrees n (λ q. d (sym e ∙ q))).0 ∙ ap (λ (x : ℕ). eqb x 1) e in
      begins (running (invoker n) at95) z (fresh_task kind n 0 95) (first_invoke n small) (typed_represented sim.rep sim.memory n small kind k d b agrees)
      (typed_memory sim.rep sim.memory n small kind k d b agrees) refl refl refl refl
      (typed_still sim.rep sim.memory n small kind k d b agrees) (n, refl) (λ v x. x)
      (λ m q. subst (λ (x : ℕ). ¬ ((operation_of z x).kind ≡ 0)) (invoke_same q) (λ f. d (sym e ∙ f)))
      (λ m q. let z : ◌≡◌ {A = ℕ} 0 1 = cc in absurd (omega arith))
      (ap (λ (x : ℕ). record { running = true; call = x; op = n; tag = 0; line = 95; back = 0; own = 0; o = 0; helped = 0 }) (number ins))

  pub start_simulated : (call : Call) (n k : ℕ) → may_start y call n k ≡ true → Agrees T (fixing y call n k)
      → StartSimulated T y w p (first_position call n k) (set_task p (started call n k) (fixing y call n k))
  unfolding may_start started fixing fresh_task
  start_simulated InvokeInsert n k ok agrees = invoke_begins 1 n k (λ z. absurd (omega arith)) (omega arith) (ltb-true n 64 (and_left (ltb n 64) _ ok)) agrees
      (kind_inserts (T.inserts n))
  start_simulated InvokeRemove n k ok agrees = invoke_begins 2 n k (λ z. absurd (omega arith)) (omega arith) (ltb-true n 64 (and_left (ltb n 64) _ ok)) agrees
      (kind_removes (T.inserts n))
  start_simulated Freeze n k ok agrees =
      begins (running freezer at109) y (fresh_task 3 0 0 109) first_freeze sim.rep sim.memory refl refl refl refl (λ m d. d) refl (λ v x. x)
      (λ m e. let z : ◌≡◌ {A = ℕ} 0 1 = cc in absurd (omega arith)) (λ m e. let z : ◌≡◌ {A = ℕ} 0 1 = cc in absurd (omega arith)) refl
  start_simulated HasMember n k ok agrees =
      begins (member_112 k) y (fresh_task 4 0 k 112) (first_has k) sim.rep sim.memory refl refl refl refl (λ m d. d) tt (λ v x. x)
      (λ m e. let z : ◌≡◌ {A = ℕ} 0 1 = cc in absurd (omega arith)) (λ m e. let z : ◌≡◌ {A = ℕ} 0 1 = cc in absurd (omega arith)) refl
  start_simulated GetResponse n k ok agrees =
      let returned : w.heap.returned n ≡ true = sym (sim.rep.same_returned n) ∙ and_right (ltb n 64) _ ok in
      begins (response_117 n) y (fresh_task 5 n 0 117) (first_response n returned) sim.rep sim.memory refl refl refl refl (λ m d. d)
      (ltb-true n 64 (and_left (ltb n 64) _ ok)) (λ v x. x)
      (λ m e. let z : ◌≡◌ {A = ℕ} 0 1 = cc in absurd (omega arith)) (λ m e. subst (λ (x : ℕ). w.heap.returned x ≡ true) (get_same e) returned) refl
