-- Lines 102 and 123 put an op into the bucket's version, which has none; lines 138 and 139 write the response and the infinite prio of the
-- operation that HELPFINISH has found. Assumes nothing.
use Rattle.std.specs.Prelude.{◌+◌, ◌<◌, ◌≤◌, ℕ, List, ◌≡◌, Ok}
use Rattle.std.proofs.Common.{inl, ◌∙◌, subst, sym, arith}
use Rattle.std.proofs.Math.Path.{ap, refl}
use Rattle.std.proofs.Math.Nat.{le_refl}
use Rattle.coop_spec.specs.Atomic.{AtomicCall, Operations, changed, reply}
use Rattle.coop_spec.specs.History.{Occurrence, installs}
use Rattle.coop_spec.specs.Machine.{Machine, as_done, operation_of, set_operation, set_task, with_operations, with_own, with_resp, with_state}
use Rattle.coop_spec.specs.Machine.{with_task, with_versions}
use Rattle.coop_spec.specs.Words.{apply, current, op_word, set_done, set_op, set_resp}
use Rattle.coop_spec.specs.declared.Operation.{Operation}
use Rattle.coop_spec.specs.declared.Task.{Task}
use Rattle.coop_linear.specs.Effects.{Claims, a_claim, claims_none, claims_one, installs_none, no_claim, no_install}
use Rattle.coop_laws.specs.FactsKept.{StillInvoked, op_word_kept, operation_kept, operation_still}
use Rattle.coop_model.specs.Functions.{changed_other, changed_same}
use Rattle.coop_model.specs.Heap.{OpField, bottom, mark_done, nil, op, put_op, respond}
use Rattle.coop_model.specs.HeapInvariant.{bottom_not_op, nil_is_current, nil_not_op, same_op_number}
use Rattle.coop_model.specs.Invariant.{Invariant}
use Rattle.coop_model.specs.Lines.{Line, l138, l139}
use Rattle.coop_linear.specs.Named.{Known, KnownIn, Names}
use Rattle.coop_model.specs.Orders.{bucket_after}
use Rattle.coop_model.specs.Positions.{Point, Position, ReturnTo, Role, at102, at123, at127, at129, at138, at139, at140, call_at, freezer, invoker}
use Rattle.coop_model.specs.Positions.{running, runs, to103}
use Rattle.coop_linear.specs.Represents.{Represents, current_word, field_word}
use Rattle.coop_model.specs.Runs.{Configuration, Transition, claim, moved, seal}
use Rattle.coop_linear.specs.Settled.{known_moved, known_same}
use Rattle.coop_linear.specs.Shapes.{Shape}
use Rattle.coop_linear.specs.Simulates.{Simulates}
use Rattle.coop_laws.specs.SoundFacts.{MemoryFacts, OpWordFacts, an_operation, no_operation}
use Rattle.coop_linear.specs.StepOutcome.{Stepped, facts, goes_on, in_table, line_on, line_quiet, named_here, one_more}
use Rattle.coop_linear.specs.TaskImages.{task_image}
use Rattle.coop_linear.specs.WritesRepresented.{done_represented, fewer_known, op_represented, resp_represented}
use Rattle.coop_spec.specs.declared.Progress.TheVariants as Outs

module _ {T : Operations} {y : Machine} {w : Configuration} (sim : Simulates T y w.heap w.position) {L : List Occurrence} (i : Invariant T w L) where
  module _ (p : ℕ) (c : AtomicCall) (r : call_at (w.position p) ≡ runs c) (own steps : ℕ) where
    -- ---- lines 102 and 123: an op is put into the bucket's version, which has none

    pub word_now : op_word y (current y) ≡ field_word (w.heap.op_at w.heap.current)
    word_now = current_word sim.rep

    module _ (o : ℕ) (x : OpField) (known : KnownIn w o) (nil≡ : w.heap.op_at o ≡ nil) (now : o ≡ w.heap.current)
        (used : (m : ℕ) → x ≡ op m → ¬ ((operation_of y m).kind ≡ 0))
        (fine : OpWordFacts y (field_word x)) where
      abbrev put : Machine
      put = apply (set_op (sim.slot o) (field_word x)) y

      put_rep : Represents T put (put_op o x w.heap) (KnownIn w) sim.slot
      put_rep = op_represented sim.rep o known x used

      put_memory : MemoryFacts put
      put_memory = op_word_kept sim.memory sim.rep.length_right (sim.slot o) (sim.rep.below o known) (field_word x) fine

      put_stays : (v m : ℕ) → w.heap.op_at v ≡ op m → (put_op o x w.heap).op_at v ≡ op m
      put_stays v m e = changed_other w.heap.op_at o x v (λ q. nil_not_op nil≡ (ap w.heap.op_at (sym q) ∙ e)) ∙ e

      put_nil : op_word y (current y) ≡ 0
      put_nil = word_now ∙ ap field_word (ap w.heap.op_at (sym now) ∙ nil≡)

      put_now : (put_op o x w.heap).op_at w.heap.current ≡ x
      put_now = ap (changed w.heap.op_at o x) (sym now) ∙ changed_same w.heap.op_at o x

      put_word : (d : Task) → op_word (set_task p d put) (current y) ≡ field_word x
      unfolding set_task with_task with_state op_word
      put_word d = ap (op_word put) sim.rep.same_node ∙ put_rep.same_op w.heap.current (inl refl) ∙ ap field_word put_now

      put_installs : (d : Task) (l : List ℕ) → installs y (set_task p d put) l ≡ l
      unfolding set_task with_task with_state apply with_versions
      put_installs d = installs_none y (set_task p d put) refl

      module _ (l l' : Position) (e : w.position p ≡ l) (to : Transition T w (moved w p (put_op o x w.heap) l'))
          (call≡ : call_at l' ≡ call_at (w.position p))
          (shape : Shape l') (nothing : (v : ℕ) → ¬ Names l' v)
          (claimed : Claims y (set_task p (with_own (one_more steps) (task_image T sim.slot own l')) put) w.heap (put_op o x w.heap)) where
        case_put : Stepped T y w p (record {
          out = Ok (Outs.At (task_image T sim.slot own l').line);
          machine = set_task p (with_own (one_more steps) (task_image T sim.slot own l')) put;
        })
        unfolding apply with_versions operation_of
        case_put =
            goes_on sim i p c r own steps l' (put_op o x w.heap) put sim.slot to call≡ shape
            (fewer_known put_rep (Known w.heap.current (changed w.position p l'))
            (λ v k. known_same w.heap.current w.position v (known_moved w.position p l' (λ v n. absurd (nothing v n)) v k)) (inl refl))
            put_memory refl refl (λ v k. refl) (λ v n. absurd (nothing v n)) (λ n d. d) (λ n z. z)
            (record {
              op_stays = put_stays;
              grows = le_refl w.heap.current;
              claimed = claimed;
              installed = no_install (put_installs (with_own (one_more steps) (task_image T sim.slot own l')));
            })

    pub case_puts_op : (n o : ℕ) → w.position p ≡ running (invoker n) (at102 n o) → w.heap.op_at o ≡ nil
        → Stepped T y w p (record {
          out = Ok (Outs.At 129);
          machine =
              set_task p (with_own (one_more steps) (task_image T sim.slot own (running (invoker n) (at129 (to103 n)))))
              (apply (set_op (sim.slot o) (n + 2)) y);
        })
    case_puts_op n o e x =
        let f = facts sim i p c r own steps (running (invoker n) (at102 n o)) e in
        let q = nil_is_current T w.heap (bucket_after T L) i.heap o f.0.0 x in
        let k = named_here sim i p c r own steps (running (invoker n) (at102 n o)) o e refl in
        let d = sim.invoked p n (ap call_at e) in
        let u : (m : ℕ) → op n ≡ op m → ¬ ((operation_of y m).kind ≡ 0) = λ m z. subst (λ (i : ℕ). ¬ ((operation_of y i).kind ≡ 0)) (same_op_number refl z) d in
        let fine : OpWordFacts y (n + 2) = an_operation n refl (i.numbers_low p n (ap call_at e)) d in
        case_put o (op n) k x q u fine (running (invoker n) (at102 n o)) (running (invoker n) (at129 (to103 n))) e (claim p n o e x)
        (sym (ap call_at e)) refl (λ v z. z)
        (a_claim n (claims_one y _ n (put_nil o (op n) k x q u fine) (put_word o (op n) k x q u fine _)) (ap w.heap.op_at (sym q) ∙ x)
        (put_now o (op n) k x q u fine))

    role_call : (j : Role) (l l' : Point) → call_at (running j l') ≡ call_at (running j l)
    role_call (invoker n) l l' = refl
    role_call freezer l l' = refl

    pub case_puts_bottom : (j : Role) (o : ℕ) → w.position p ≡ running j (at123 o) → w.heap.op_at o ≡ nil
        → Stepped T y w p (record {
          out = Ok (Outs.At 127);
          machine = set_task p (with_own (one_more steps) (task_image T sim.slot own (running j at127))) (apply (set_op (sim.slot o) 1) y);
        })
    case_puts_bottom j o e x =
        let f = facts sim i p c r own steps (running j (at123 o)) e in
        let q = nil_is_current T w.heap (bucket_after T L) i.heap o f.0.1 x in
        let k = named_here sim i p c r own steps (running j (at123 o)) o e refl in
        let u : (m : ℕ) → bottom ≡ op m → ¬ ((operation_of y m).kind ≡ 0) = λ m z. absurd (bottom_not_op refl z) in
        let fine : OpWordFacts y 1 = no_operation (omega arith) in
        case_put o bottom k x q u fine (running j (at123 o)) (running j at127) e (seal p o j e x)
        (role_call j (at123 o) at127 ∙ sym (ap call_at e)) tt (λ v z. z)
        (no_claim (claims_none y _ (λ z.
        let a = put_word o bottom k x q u fine (with_own (one_more steps) (task_image T sim.slot own (running j at127))) in
        let b = z.0 in
        absurd (omega arith))))

    -- ---- lines 138 and 139: the operation found

    module _ (m : ℕ) (small : m < 64) (d : ¬ ((operation_of y m).kind ≡ 0)) (q : Operation) (kind≡ : q.kind ≡ (operation_of y m).kind) where
      pub op_memory : MemoryFacts (set_operation m q y)
      op_memory =
          operation_kept sim.memory m q (in_table sim i m small) (λ z. d (sym kind≡ ∙ z)) (subst (λ (n : ℕ). n ≤ 2) (sym kind≡) (sim.memory.kind_known m))

      pub op_still : StillInvoked y (set_operation m q y)
      op_still =
          operation_still sim.memory m q (in_table sim i m small) (λ z. d (sym kind≡ ∙ z)) (subst (λ (n : ℕ). n ≤ 2) (sym kind≡) (sim.memory.kind_known m))

    pub case_responds : (j : Role) (b : ReturnTo) (o m : ℕ) → w.position p ≡ running j (at138 b o m)
        → Stepped T y w p (record {
          out = Ok (Outs.At 139);
          machine = set_task p (with_own (one_more steps) (task_image T sim.slot own (running j (at139 b o m))))
              (apply (set_resp m (reply T m (w.heap.set o))) y);
        })
    unfolding apply set_operation with_operations with_state with_resp op_word
    case_responds j b o m e =
        let f = (facts sim i p c r own steps (running j (at138 b o m)) e).0.0 in
        let small = i.heap.numbers_low o m f in
        let d = sim.rep.in_use o m f in
        let q = with_resp (reply T m (w.heap.set o)) (operation_of y m) in
        let t : Line T w.heap (running j (at138 b o m)) (respond m (reply T m (w.heap.set o)) w.heap) (running j (at139 b o m)) = l138 in
        line_on sim i p c r own steps e t (set_operation m q y) sim.slot (KnownIn w)
        (resp_represented sim.rep m small q refl refl (reply T m (w.heap.set o)) refl)
        (known_same w.heap.current w.position) (op_memory m small d q refl) refl refl (λ v k. refl)
        (op_still m small d q refl) (λ n x. x) (line_quiet sim i p c r own steps e t (set_operation m q y) refl refl)

    pub case_marks_done : (j : Role) (b : ReturnTo) (o m : ℕ) → w.position p ≡ running j (at139 b o m)
        → Stepped T y w p (record {
          out = Ok (Outs.At 140);
          machine = set_task p (with_own (one_more steps) (task_image T sim.slot own (running j (at140 b o m)))) (apply (set_done m) y);
        })
    unfolding apply set_operation with_operations with_state as_done op_word
    case_marks_done j b o m e =
        let f = (facts sim i p c r own steps (running j (at139 b o m)) e).0.0 in
        let small = i.heap.numbers_low o m f in
        let d = sim.rep.in_use o m f in
        let q = as_done (operation_of y m) in
        let t : Line T w.heap (running j (at139 b o m)) (mark_done m w.heap) (running j (at140 b o m)) = l139 in
        line_on sim i p c r own steps e t (set_operation m q y) sim.slot (KnownIn w) (done_represented sim.rep m small q refl refl refl)
        (known_same w.heap.current w.position) (op_memory m small d q refl) refl refl (λ v k. refl)
        (op_still m small d q refl) (λ n x. x) (line_quiet sim i p c r own steps e t (set_operation m q y) refl refl)
