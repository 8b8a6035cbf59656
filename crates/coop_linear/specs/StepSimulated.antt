-- An accepted step of the words is one transition of the model, and the words go on simulating it: every outcome of a line. Assumes nothing.
use Rattle.std.specs.Prelude.{◌<◌, suc, ℕ, false, true, List, ◌≡◌, length, Ok}
use Rattle.std.proofs.Common.{inl, ◌∙◌, subst, sym, le_refl, arith}
use Rattle.std.proofs.Math.Path.{ap, refl}
use Rattle.spec.specs.Words.{number}
use Rattle.laws.specs.Tests.{hit, miss}
use Rattle.coop_spec.specs.Atomic.{AtomicCall, Operations, Result, boolean, change, changed, invoke, tag_set}
use Rattle.coop_spec.specs.Entries.{accept, finish}
use Rattle.coop_spec.specs.Held.{free_version}
use Rattle.coop_spec.specs.History.{Occurrence, result_of}
use Rattle.coop_spec.specs.Lines.{Effect}
use Rattle.coop_spec.specs.Machine.{Machine, as_returned, idle, operation_of, set_operation, set_task, with_node, with_operations, with_state}
use Rattle.coop_spec.specs.Machine.{with_task, with_versions}
use Rattle.coop_spec.specs.StepRefusals.{all_held}
use Rattle.coop_spec.specs.Words.{apply, apply_all, install, op_word, set_returned, tags_of}
use Rattle.coop_spec.specs.declared.Answer.{Answer}
use Rattle.coop_spec.specs.declared.Answer.TheVariants.{No, Version, Yes}
use Rattle.coop_laws.specs.FactsKept.{StillInvoked, operation_kept, operation_still}
use Rattle.coop_model.specs.Functions.{changed_at}
use Rattle.coop_model.specs.Heap.{Heap, advance, mark_returned, op}
use Rattle.coop_model.specs.Invariant.{Invariant}
use Rattle.coop_linear.specs.LineOutcomes.{Does, advances, gives_version, goes, marks_done, puts_bottom, puts_op, raises, responds}
use Rattle.coop_linear.specs.LineOutcomes.{returns_advancing, returns_only, says_no, says_yes}
use Rattle.coop_model.specs.Lines.{End, e127}
use Rattle.coop_linear.specs.Named.{Known}
use Rattle.coop_model.specs.Positions.{Position, call_at, no_call, runs}
use Rattle.coop_linear.specs.Represents.{Represents}
use Rattle.coop_model.specs.Runs.{Configuration, Transition, after_end, end_call}
use Rattle.coop_linear.specs.Settled.{known_same}
use Rattle.coop_linear.specs.Shapes.{ends_call}
use Rattle.coop_linear.specs.Simulates.{Simulates}
use Rattle.coop_laws.specs.SoundFacts.{MemoryFacts}
use Rattle.coop_linear.specs.StepInstalls.{case_advances, install_effects, install_memory, install_rep, old_word, place, place_same}
use Rattle.coop_linear.specs.StepOutcome.{Stepped, case_goes, case_raises, comes_to_end, in_table, known_ended, one_more, quiet}
use Rattle.coop_linear.specs.StepPuts.{case_marks_done, case_puts_bottom, case_puts_op, case_responds}
use Rattle.coop_linear.specs.TaskImages.{task_image}
use Rattle.coop_linear.specs.WritesRepresented.{fewer_known, returned_represented}
use Rattle.coop_spec.specs.declared.Progress.TheVariants as Outs

module _ {T : Operations} {y : Machine} {w : Configuration} (sim : Simulates T y w.heap w.position) {L : List Occurrence} (i : Invariant T w L) where
  module _ (p : ℕ) (c : AtomicCall) (r : call_at (w.position p) ≡ runs c) (own steps : ℕ) where
    -- ---- the call ends

    -- an invoke that ended true, after the line's other writes: in the machine z, which represents the heap g
    module _ (n : ℕ) (runs-n : call_at (w.position p) ≡ runs (invoke n)) where
      small_n : n < 64
      small_n = i.numbers_low p n runs-n

      known_n : ¬ ((operation_of y n).kind ≡ 0)
      known_n = sim.invoked p n runs-n

      module _ (z : Machine) (g : Heap) {K : ℕ → Type 0} {slot : ℕ → ℕ} (rep : Represents T z g K slot) (memory : MemoryFacts z)
          (same : z.state.operation ≡ y.state.operation) where
        returned_rep : Represents T (apply (set_returned n) z) (mark_returned n g) K slot
        unfolding apply as_returned
        returned_rep = returned_represented rep n small_n (as_returned (operation_of z n)) refl refl refl

        known_z : ¬ ((operation_of z n).kind ≡ 0)
        unfolding operation_of
        known_z = rw same known_n

        in_z : n < length z.state.operation
        in_z = rw same (in_table sim i n small_n)

        returned_memory : MemoryFacts (apply (set_returned n) z)
        unfolding apply as_returned
        returned_memory = operation_kept memory n (as_returned (operation_of z n)) in_z known_z (memory.kind_known n)

        returned_still : StillInvoked z (apply (set_returned n) z)
        unfolding apply as_returned
        returned_still = operation_still memory n (as_returned (operation_of z n)) in_z known_z (memory.kind_known n)

      returned_stays : (k : ℕ) → w.heap.returned k ≡ true → changed w.heap.returned n true k ≡ true
      returned_stays k e = elim (changed_at w.heap.returned n true k) [ hit q f ↦ f | miss d f ↦ f ∙ e ]

    case_returns_only : {l : Position} {n : ℕ} → w.position p ≡ l → End T w.heap l (mark_returned n w.heap) (invoke n) (boolean true)
        → Stepped T y w p (record { out = Ok (Outs.End Yes (one_more steps)); machine = set_task p idle (apply (set_returned n) y) })
    unfolding apply set_operation with_operations with_state op_word result_of
    case_returns_only {n = n} e t =
        let u = ap call_at e ∙ ends_call t in
        let z = apply (set_returned n) y in
        comes_to_end sim i p c r own steps Yes (mark_returned n w.heap) (invoke n) u z sim.slot (end_call p e t)
        (fewer_known (returned_rep n u y w.heap sim.rep sim.memory refl) (Known w.heap.current (changed w.position p no_call))
        (λ v k. known_same w.heap.current w.position v (known_ended sim i p c r own steps v k)) (inl refl))
        (returned_memory n u y w.heap sim.rep sim.memory refl) refl refl (λ v k. refl)
        (returned_still n u y w.heap sim.rep sim.memory refl) (returned_stays n u)
        (quiet sim i p c r own steps (mark_returned n w.heap) z idle (λ v m x. x) (le_refl _) refl refl)

    case_returns_advancing : {l : Position} {n o m : ℕ} → w.position p ≡ l → o ≡ w.heap.current → w.heap.op_at o ≡ op m
        → ¬ (free_version y ≡ 0)
        → End T w.heap l (mark_returned n (advance (change T m (w.heap.set o)) w.heap)) (invoke n) (boolean true)
        → Stepped T y w p (record {
          out = Ok (Outs.End Yes (one_more steps));
          machine = set_task p idle (apply (set_returned n) (apply (install (number (free_version y)) (change T m (w.heap.set o))) y));
        })
    unfolding apply set_operation with_operations with_node with_versions with_state op_word operation_of result_of
    case_returns_advancing {n = n} {o = o} {m = m} e now op≡ free t =
        let u = ap call_at e ∙ ends_call t in
        let S = change T m (w.heap.set o) in
        let x = apply (install (number (free_version y)) S) y in
        let z = apply (set_returned n) x in
        let rep = install_rep sim i p c r own steps o m now op≡ free in
        let memory = install_memory sim i p c r own steps o m now op≡ free in
        comes_to_end sim i p c r own steps Yes (mark_returned n (advance S w.heap)) (invoke n) u z (place sim i p c r own steps o m now op≡ free)
        (end_call p e t)
        (fewer_known (returned_rep n u x (advance S w.heap) rep memory refl) (Known (suc w.heap.current) (changed w.position p no_call))
        (λ v k. known_ended sim i p c r own steps v k) (inl refl))
        (returned_memory n u x (advance S w.heap) rep memory refl) refl refl
        (place_same sim i p c r own steps o m now op≡ free) (returned_still n u x (advance S w.heap) rep memory refl) (returned_stays n u)
        (install_effects sim i p c r own steps o m now op≡ free (mark_returned n (advance S w.heap)) z idle (λ v k x. x) (omega arith) refl
        (old_word sim i p c r own steps o m now op≡ free))

    -- without a write
    module _ {l : Position} {c' : AtomicCall} {a' : Result} (e : w.position p ≡ l) (t : End T w.heap l w.heap c' a') (a : Answer)
        (is : a' ≡ result_of (set_task p idle y) a) where
      case_answers : Stepped T y w p (record { out = Ok (Outs.End a (one_more steps)); machine = set_task p idle y })
      case_answers =
          comes_to_end sim i p c r own steps a w.heap c' (ap call_at e ∙ ends_call t) y sim.slot
          (subst (λ (r : Result). Transition T w (after_end w p w.heap c' r)) is (end_call p e t))
          (fewer_known sim.rep (Known w.heap.current (changed w.position p no_call))
          (λ v k. known_same w.heap.current w.position v (known_ended sim i p c r own steps v k)) (inl refl)) sim.memory refl refl
          (λ v k. refl) (λ n d. d) (λ n x. x)
          (quiet sim i p c r own steps w.heap y idle (λ v m x. x) (le_refl _) refl refl)

    frozen_set : tag_set (w.heap.set w.heap.current) ≡ result_of (set_task p idle y) (Version (sim.slot w.heap.current))
    unfolding result_of set_task with_task with_state tags_of
    frozen_set = ap tag_set (sym (sim.rep.same_set w.heap.current (inl refl)))

    -- ---- EVERY OUTCOME

    pub step_simulated : (l : Position) → w.position p ≡ l → (E : Effect) → Does sim.rep own l E → all_held y (task_image T sim.slot own l) ≡ false
        → Stepped T y w p (accept y p steps E)
    unfolding accept finish apply_all result_of
    step_simulated l e E (goes t) free = case_goes sim i p c r own steps e t
    step_simulated l e E (raises t) free = case_raises sim i p c r own steps e t
    step_simulated l e E (puts_op {n = n} {o = o} x) free = case_puts_op sim i p c r own steps n o e x
    step_simulated l e E (puts_bottom {j = j} {o = o} x) free = case_puts_bottom sim i p c r own steps j o e x
    step_simulated l e E (responds {j = j} {b = b} {o = o} {m = m}) free = case_responds sim i p c r own steps j b o m e
    step_simulated l e E (marks_done {j = j} {b = b} {o = o} {m = m}) free = case_marks_done sim i p c r own steps j b o m e
    step_simulated l e E (advances {o = o} {m = m} q x f t) free = case_advances sim i p c r own steps o m q x (f free) e t
    step_simulated l e E (returns_advancing {n = n} {o = o} {m = m} q x f t) free = case_returns_advancing e q x (f free) t
    step_simulated l e E (says_no t) free = case_answers e t No refl
    step_simulated l e E (says_yes t) free = case_answers e t Yes refl
    step_simulated l e E gives_version free = case_answers e e127 (Version (sim.slot w.heap.current)) frozen_set
    step_simulated l e E (returns_only t) free = case_returns_only e t
