-- After a task's record is replaced by the image of its next position, the words simulate the model with the task there. Assumes nothing.
use Rattle.std.specs.Prelude.{◌<◌, ℕ, true, ◌⊎◌, ◌≡◌, length}
use mathlib.Core.List.{List}
use Rattle.std.proofs.Common.{inl, inr, ◌∙◌, arith}
use Rattle.std.proofs.Math.Path.{ap, sym}
use Rattle.std.proofs.Math.ListN.{get_or}
use Rattle.laws.specs.Tests.{At, hit, miss}
use Rattle.coop_spec.specs.Atomic.{Operations, changed, get_response, invoke}
use Rattle.coop_spec.specs.Machine.{Machine, idle, operation_of, set_task, task_of, with_state, with_task}
use Rattle.coop_spec.specs.Words.{op_word, tags_of}
use Rattle.coop_spec.specs.declared.Task.{Task}
use Rattle.coop_laws.specs.FactsKept.{StillInvoked, task_after, task_kept}
use Rattle.coop_model.specs.Functions.{changed_at}
use Rattle.coop_model.specs.Heap.{Heap}
use Rattle.coop_linear.specs.Named.{Known, Names}
use Rattle.coop_model.specs.Positions.{Position, call_at, runs}
use Rattle.coop_linear.specs.Represents.{Represents}
use Rattle.coop_linear.specs.Shapes.{Shape}
use Rattle.coop_linear.specs.Simulates.{Simulates}
use Rattle.coop_laws.specs.SoundFacts.{MemoryFacts}
use Rattle.coop_linear.specs.TaskImages.{image_same, task_image}

task_represented : {T : Operations} {z : Machine} {g : Heap} {K : ℕ → Type 0} {slot : ℕ → ℕ} → Represents T z g K slot → (p : ℕ) (c : Task)
    → Represents T (set_task p c z) g K slot
unfolding set_task with_task with_state operation_of op_word tags_of
task_represented rep p c = record {
  same_node = rep.same_node;
  same_flag = rep.same_flag;
  same_resp = rep.same_resp;
  same_done = rep.same_done;
  types = rep.types;
  in_use = rep.in_use;
  same_op = rep.same_op;
  same_set = rep.same_set;
  apart = rep.apart;
  has_current = rep.has_current;
  same_returned = rep.same_returned;
  below = rep.below;
  few_in = rep.few_in;
  length_right = rep.length_right;
  operations_64 = rep.operations_64;
}

-- the versions known with task p at l'
pub known_moved : {now new : ℕ} (ps : ℕ → Position) (p : ℕ) (l' : Position) → ((v : ℕ) → Names l' v → (v ≡ new) ⊎ Known now ps v) → (v : ℕ)
    → Known new (changed ps p l') v
    → (v ≡ new) ⊎ Known now ps v
known_moved ps p l' f v (inl e) = inl e
known_moved {now} {new} ps p l' f v (inr (q, n)) = go (changed_at ps p l' q)
  where
    go : At (q ≡ p) l' (ps q) (changed ps p l' q) → (v ≡ new) ⊎ Known now ps v
    go (hit e g) = f v (rw g at n)
    go (miss d g) = inr (inr (q, rw g at n))

-- where the bucket has the same version
pub known_same : (now : ℕ) (ps : ℕ → Position) (v : ℕ) → (v ≡ now) ⊎ Known now ps v → Known now ps v
known_same now ps v (inl e) = inl e
known_same now ps v (inr k) = k

module _ {T : Operations} {y z : Machine} {h g : Heap} {ps : ℕ → Position} (sim : Simulates T y h ps) (p : ℕ) (l' : Position) (slot : ℕ → ℕ) (own : ℕ)
    (rep : Represents T z g (Known g.current (changed ps p l')) slot) (memory : MemoryFacts z)
    (task≡ : z.state.task ≡ y.state.task) (tasks≡ : z.state.tasks ≡ y.state.tasks)
    (others : (q v : ℕ) → ¬ (q ≡ p) → Names (ps q) v → slot v ≡ sim.slot v)
    (still : StillInvoked y z) (returned : (n : ℕ) → h.returned n ≡ true → g.returned n ≡ true)
    (shape : Shape l') (below : p < y.state.tasks)
    (invoked : (n : ℕ) → call_at l' ≡ runs (invoke n) → ¬ ((operation_of z n).kind ≡ 0)) (asked : (n : ℕ) → call_at l' ≡ runs (get_response n)
    → g.returned n ≡ true)
    (c : Task) (is : c ≡ task_image T slot own l') where
  low : p < length z.state.task
  low = let a = sim.memory.T_high in let b = memory.eight_tasks in omega arith

  moved_image : (q : ℕ) → At (q ≡ p) l' (ps q) (changed ps p l' q) → At (q ≡ p) c (task_of z q) (task_of (set_task p c z) q)
      → (own : ℕ) × (task_of (set_task p c z) q ≡ task_image T slot own (changed ps p l' q))
  unfolding task_of
  moved_image q (hit e a) (hit f b) = (own, b ∙ is ∙ ap (task_image T slot own) (sym a))
  moved_image q (hit e a) (miss d b) = absurd (d e)
  moved_image q (miss d a) (hit e b) = absurd (d e)
  moved_image q (miss d a) (miss d' b) =
      let m = sim.images q in (
        m.0,
        b ∙ ap (λ (l : List Task). get_or l q idle) task≡ ∙ m.1 ∙ sym (image_same T sim.slot slot m.0 (ps q) (λ v n. others q v d n)) ∙ ap
            (task_image T slot m.0) (sym a),
      )

  pub settled : Simulates T (set_task p c z) g (changed ps p l')
  unfolding set_task with_task with_state operation_of
  settled = record {
    slot = slot;
    rep = task_represented rep p c;
    memory = task_kept memory p c;
    images = λ q. moved_image q (changed_at ps p l' q) (task_after z p c low q);
    below_T = λ q k e. rw tasks≡ (elim (changed_at ps p l' q) [ hit s a ↦ rw s below | miss d a ↦ sim.below_T q k (sym (ap call_at a) ∙ e) ]);
    shapes = λ q. elim (changed_at ps p l' q) [ hit s a ↦ rw a shape | miss d a ↦ rw a (sim.shapes q) ];
    invoked =
        λ q n e. elim (changed_at ps p l' q) [ hit s a ↦ invoked n (sym (ap call_at a) ∙ e) | miss d a ↦ still n (sim.invoked q n (sym (ap call_at a) ∙ e)) ];
    asked =
        λ q n e. elim (changed_at ps p l' q) [ hit s a ↦ asked n (sym (ap call_at a) ∙ e) | miss d a ↦ returned n (sim.asked q n (sym (ap call_at a) ∙ e)) ];
  }
