-- What an accepted step comes to: the task goes on, or its call ended; and, given how the words represent the heap after the writes of its
-- line, that the words go on simulating the model. Assumes nothing.
use Rattle.std.specs.Prelude.{◌+◌, ◌<◌, ◌≤◌, min, suc, ℕ, true, List, ◌⊎◌, ◌≡◌, length, Ok}
use Rattle.std.proofs.Common.{inl, inr, ◌∙◌, ap, subst, sym, arith}
use Rattle.std.proofs.Math.Path.{refl}
use Rattle.coop_spec.specs.Atomic.{AtomicCall, FSet, Operations, changed}
use Rattle.coop_spec.specs.Entries.{Reply}
use Rattle.coop_spec.specs.History.{Occurrence, result_of}
use Rattle.coop_spec.specs.Machine.{Machine, idle, operation_of, set_task, with_flag, with_own, with_state, with_task}
use Rattle.coop_spec.specs.Words.{apply, current, op_word, raise_flag}
use Rattle.coop_spec.specs.declared.Answer.{Answer}
use Rattle.coop_spec.specs.declared.Task.{Task}
use Rattle.coop_linear.specs.Effects.{Effects, no_effects}
use Rattle.coop_laws.specs.FactsKept.{StillInvoked, raise_kept}
use Rattle.coop_model.specs.Heap.{Heap, op, raise}
use Rattle.coop_model.specs.HeapInvariant.{HeapInvariant, not_ahead}
use Rattle.coop_laws.specs.Held.{HeldVersion, by_bucket, by_task}
use Rattle.coop_model.specs.Invariant.{Invariant, not_running}
use Rattle.coop_model.specs.Lines.{Line}
use Rattle.coop_linear.specs.Named.{Known, KnownIn, Named, Names, names_next}
use Rattle.coop_model.specs.Orders.{bucket_after}
use Rattle.coop_model.specs.PositionFacts.{PointFacts, PositionFacts}
use Rattle.coop_model.specs.Positions.{Point, Position, at100, at101, at102, at107, at109, at120, at121, at122, at123, at127, at129, at130, at138}
use Rattle.coop_model.specs.Positions.{at139, at140, at95, at96, at99, call_at, member_112, member_113, no_call, response_117, running, runs}
use Rattle.coop_linear.specs.Represents.{Represents}
use Rattle.coop_model.specs.Runs.{Configuration, Transition, after_end, move, moved}
use Rattle.coop_linear.specs.Settled.{known_moved, known_same, settled}
use Rattle.coop_linear.specs.Shapes.{Shape, line_shape}
use Rattle.coop_linear.specs.Simulates.{Simulates}
use Rattle.coop_laws.specs.SoundFacts.{MemoryFacts}
use Rattle.coop_model.specs.Steps.{LineKeeps, own_line}
use Rattle.coop_linear.specs.TaskImages.{image_own, image_same, named_image, task_image}
use Rattle.coop_linear.specs.WritesRepresented.{fewer_known, raise_represented}
use Rattle.coop_spec.specs.declared.Progress.TheVariants as Outs

-- what a step came to: the task goes on, or its call ended with an answer
pub data Stepped (T : Operations) (y : Machine) (w : Configuration) (p : ℕ) (m : Reply) : Type 0 where
  went_on : (line : ℕ) (g : Heap) (l' : Position) → m.out ≡ Ok (Outs.At line) → Transition T w (moved w p g l') → call_at l' ≡ call_at (w.position p)
      → Simulates T m.machine g (changed w.position p l')
      → Effects y m.machine w.heap g → Stepped T y w p m
  call_ended : (a : Answer) (own : ℕ) (g : Heap) (c : AtomicCall) → m.out ≡ Ok (Outs.End a own) → call_at (w.position p) ≡ runs c
      → Transition T w (after_end w p g c (result_of m.machine a))
      → Simulates T m.machine g (changed w.position p no_call) → Effects y m.machine w.heap g → Stepped T y w p m

-- "Own steps count accepted steps of the call, staying at 65,535."
abbrev pub one_more : ℕ → ℕ
one_more n = min (n + 1) 65535

-- ---- a version that a task names is the bucket's or an earlier one

module _ {T : Operations} {h : Heap} {A : FSet} (i : HeapInvariant T h A) where
  named_old : (l : Point) (v : ℕ) → PointFacts h A l → Named l v → v ≤ h.current
  named_old (at100 o) v f n = rw n f
  named_old (at101 o) v f n = rw n f
  named_old (at102 m o) v f n = rw n f.0
  named_old (at122 o) v f n = rw n f.1
  named_old (at123 o) v f n = rw n f.1
  named_old (at130 b o) v f n = rw n f.0
  named_old (at138 b o m) v f n = rw n (not_ahead T h A i o m f.0)
  named_old (at139 b o m) v f n = rw n (not_ahead T h A i o m f.0)
  named_old (at140 b o m) v f n = rw n (not_ahead T h A i o m f.0)
  named_old at95 v f n = absurd n
  named_old at96 v f n = absurd n
  named_old at99 v f n = absurd n
  named_old (at107 m) v f n = absurd n
  named_old at109 v f n = absurd n
  named_old at120 v f n = absurd n
  named_old at121 v f n = absurd n
  named_old at127 v f n = absurd n
  named_old (at129 b) v f n = absurd n

module _ {T : Operations} {y : Machine} {w : Configuration} (sim : Simulates T y w.heap w.position) {L : List Occurrence} (i : Invariant T w L) where
  pub names_old : (q : ℕ) (l : Position) (v : ℕ) → PositionFacts T w.heap w.ended L q (w.start q) l → Names l v → v ≤ w.heap.current
  names_old q no_call v f n = absurd n
  names_old q (running j l) v f n = named_old i.heap l v f.0 n
  names_old q (member_112 k) v f n = absurd n
  names_old q (member_113 k o) v f n = rw n f.1
  names_old q (response_117 m) v f n = absurd n

  -- known versions are held, and the next in order is not known yet
  pub known_held : (v : ℕ) → KnownIn w v → HeldVersion y (sim.slot v)
  known_held v (inl e) = by_bucket (sim.rep.same_node ∙ ap sim.slot (sym e))
  known_held v (inr (q, n)) =
      let m = sim.images q in
      let f = named_image T sim.slot m.0 (w.position q) v n in
      by_task q (ap (λ (c : Task). c.running) m.1 ∙ f.0) (ap (λ (c : Task). c.o) m.1 ∙ f.1)

  pub next_unknown : ¬ KnownIn w (suc w.heap.current)
  next_unknown (inl e) = absurd (omega arith)
  next_unknown (inr (q, n)) = let a = names_old q (w.position q) (suc w.heap.current) (i.task q) n in absurd (omega arith)

  -- an operation in use
  pub in_table : (m : ℕ) → m < 64 → m < length y.state.operation
  in_table m b = let a = sim.rep.operations_64 in omega arith

  module _ (p : ℕ) (c : AtomicCall) (r : call_at (w.position p) ≡ runs c) (own steps : ℕ) where
    pub below : p < y.state.tasks
    below = sim.below_T p c r

    -- ---- the task goes on

    module _ (l' : Position) (g : Heap) (z : Machine) (slot : ℕ → ℕ) (to : Transition T w (moved w p g l'))
        (call≡ : call_at l' ≡ call_at (w.position p)) (shape : Shape l')
        (rep : Represents T z g (Known g.current (changed w.position p l')) slot) (memory : MemoryFacts z) (task≡ : z.state.task ≡ y.state.task)
        (tasks≡ : z.state.tasks ≡ y.state.tasks)
        (agree : (v : ℕ) → KnownIn w v → slot v ≡ sim.slot v) (agree' : (v : ℕ) → Names l' v → slot v ≡ sim.slot v) (still : StillInvoked y z)
        (returned : (n : ℕ) → w.heap.returned n ≡ true → g.returned n ≡ true)
        (effects : Effects y (set_task p (with_own (one_more steps) (task_image T sim.slot own l')) z) w.heap g) where
      pub goes_on : Stepped T y w p (record {
        out = Ok (Outs.At (task_image T sim.slot own l').line);
        machine = set_task p (with_own (one_more steps) (task_image T sim.slot own l')) z;
      })
      goes_on =
          went_on (task_image T sim.slot own l').line g l' refl to call≡
          (settled sim p l' slot (one_more steps) rep memory task≡ tasks≡ (λ q v d n. agree v (inr (q, n))) still returned shape below
          (λ n e. still n (sim.invoked p n (sym call≡ ∙ e))) (λ n e. returned n (sim.asked p n (sym call≡ ∙ e)))
          (with_own (one_more steps) (task_image T sim.slot own l')) (image_own T sim.slot own (one_more steps) l' (call≡ ∙ r) ∙ sym
          (image_same T sim.slot slot (one_more steps) l' agree')))
          effects

    -- ---- the call ends

    module _ (a : Answer) (g : Heap) (c' : AtomicCall) (r' : call_at (w.position p) ≡ runs c') (z : Machine) (slot : ℕ → ℕ)
        (to : Transition T w (after_end w p g c' (result_of (set_task p idle z) a)))
        (rep : Represents T z g (Known g.current (changed w.position p no_call)) slot) (memory : MemoryFacts z) (task≡ : z.state.task ≡ y.state.task)
        (tasks≡ : z.state.tasks ≡ y.state.tasks)
        (agree : (v : ℕ) → KnownIn w v → slot v ≡ sim.slot v) (still : StillInvoked y z) (returned : (n : ℕ) → w.heap.returned n ≡ true
        → g.returned n ≡ true)
        (effects : Effects y (set_task p idle z) w.heap g) where
      pub comes_to_end : Stepped T y w p (record { out = Ok (Outs.End a (one_more steps)); machine = set_task p idle z })
      unfolding idle
      comes_to_end =
          call_ended a (one_more steps) g c' refl r' to
          (settled sim p no_call slot 0 rep memory task≡ tasks≡ (λ q v d n. agree v (inr (q, n))) still returned tt below
          (λ n e. absurd (not_running e)) (λ n e. absurd (not_running e)) idle refl)
          effects

    -- ---- what is known at the position

    pub facts : (l : Position) → w.position p ≡ l → PositionFacts T w.heap w.ended L p (w.start p) l
    facts l e = subst (PositionFacts T w.heap w.ended L p (w.start p)) e (i.task p)

    pub shape_at : (l : Position) → w.position p ≡ l → Shape l
    shape_at l e = subst Shape e (sim.shapes p)

    pub named_here : (l : Position) (v : ℕ) → w.position p ≡ l → Names l v → KnownIn w v
    named_here l v e n = inr (p, subst (λ (x : Position). Names x v) (sym e) n)

    pub known_ended : {new : ℕ} (v : ℕ) → Known new (changed w.position p no_call) v → (v ≡ new) ⊎ KnownIn w v
    known_ended = known_moved w.position p no_call (λ v n. absurd n)

    -- the bucket's version and its first word are as before
    pub quiet : (g : Heap) (z : Machine) (d : Task) → ((v m : ℕ) → w.heap.op_at v ≡ op m → g.op_at v ≡ op m) → w.heap.current ≤ g.current
        → current y ≡ current z
        → op_word z (current y) ≡ op_word y (current y)
        → Effects y (set_task p d z) w.heap g
    unfolding set_task with_task with_state op_word
    quiet g z d s b e f = no_effects s b e f

    -- ---- a line of the model that goes on

    module _ {l l' : Position} {g : Heap} (e : w.position p ≡ l) (t : Line T w.heap l g l') where
      pub line_names : (v : ℕ) → Names l' v → KnownIn w v
      line_names v n = elim (names_next v t n) [ inl q ↦ inl q | inr m ↦ named_here l v e m ]

      pub line_known : (v : ℕ) → Known g.current (changed w.position p l') v → (v ≡ g.current) ⊎ KnownIn w v
      line_known = known_moved w.position p l' (λ v n. inr (line_names v n))

      pub line_rely : LineKeeps T w.heap (bucket_after T L) g l l'
      line_rely = (own_line T w.heap w.ended L i.heap p (w.start p) t (facts l e)).0

      pub line_on : (z : Machine) (slot : ℕ → ℕ) (J : ℕ → Type 0) → Represents T z g J slot → ((v : ℕ) → (v ≡ g.current) ⊎ KnownIn w v → J v) → MemoryFacts z
          → z.state.task ≡ y.state.task → z.state.tasks ≡ y.state.tasks
          → ((v : ℕ) → KnownIn w v → slot v ≡ sim.slot v) → StillInvoked y z → ((n : ℕ) → w.heap.returned n ≡ true → g.returned n ≡ true)
          → Effects y (set_task p (with_own (one_more steps) (task_image T sim.slot own l')) z) w.heap g
          → Stepped T y w p
          (record {
            out = Ok (Outs.At (task_image T sim.slot own l').line);
            machine = set_task p
                (with_own (one_more steps) (task_image T sim.slot own l')) z;
          })
      line_on z slot J rep cover memory task≡ tasks≡ agree still returned effects =
          goes_on l' g z slot (move p e t) (line_rely.call≡ ∙ ap call_at (sym e)) (line_shape t (shape_at l e))
          (fewer_known rep (Known g.current (changed w.position p l')) (λ v k. cover v (line_known v k)) (inl refl)) memory
          task≡ tasks≡ agree (λ v n. agree v (line_names v n)) still returned effects

      pub line_quiet : (z : Machine) → current y ≡ current z → op_word z (current y) ≡ op_word y (current y)
          → Effects y (set_task p (with_own (one_more steps) (task_image T sim.slot own l')) z) w.heap g
      line_quiet z a b =
          quiet g z (with_own (one_more steps) (task_image T sim.slot own l')) line_rely.rely.op_stays line_rely.rely.current_grows a b

    -- ---- no write; the flag

    pub case_goes : {l l' : Position} → w.position p ≡ l → Line T w.heap l w.heap l'
        → Stepped T y w p
        (record { out = Ok (Outs.At (task_image T sim.slot own l').line); machine = set_task p (with_own (one_more steps) (task_image T sim.slot own l')) y })
    case_goes e t =
        line_on e t y sim.slot (KnownIn w) sim.rep (known_same w.heap.current w.position) sim.memory refl refl (λ v k. refl)
        (λ n d. d) (λ n x. x)
        (line_quiet e t y refl refl)

    pub case_raises : {l l' : Position} → w.position p ≡ l → Line T w.heap l (raise w.heap) l'
        → Stepped T y w p (record {
          out = Ok (Outs.At (task_image T sim.slot own l').line);
          machine = set_task p (with_own (one_more steps) (task_image T sim.slot own l')) (apply raise_flag y);
        })
    unfolding apply with_flag with_state op_word operation_of
    case_raises e t =
        line_on e t (apply raise_flag y) sim.slot (KnownIn w) (raise_represented sim.rep) (known_same w.heap.current w.position)
        (raise_kept sim.memory) refl refl
        (λ v k. refl) (λ n d. d) (λ n x. x)
        (line_quiet e t (apply raise_flag y) refl refl)
