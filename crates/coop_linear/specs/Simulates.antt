-- The words simulate a heap and positions of the model: they represent the heap, and each task's record is the image of its position. Then they
-- are sound, and no step is refused with 8. Assumes nothing.
use Rattle.std.specs.Prelude.{◌+◌, ◌<◌, suc, ℕ, false, List, [], ◌∷◌, ◌≡◌, eqb, ltb, get_or, length}
use Rattle.std.proofs.Math.Bool.{true}
use Rattle.std.proofs.Common.{inl, inr, ◌∙◌, ap, sym, arith}
use Rattle.std.proofs.Math.Path.{refl, subst}
use borrow.Author.Tests.{le-ltb}
use Rattle.spec.specs.Lists.{member}
use Rattle.spec.specs.Words.{link, number}
use Rattle.laws.specs.Links.{true_filled}
use Rattle.laws.specs.Tests.{and_i, and_never, or_none_i}
use Rattle.coop_spec.specs.Atomic.{AtomicCall, FSet, Operations, get_response, invoke}
use Rattle.coop_spec.specs.History.{Occurrence}
use Rattle.coop_spec.specs.Linearizable.{No65thTag}
use Rattle.coop_spec.specs.Machine.{Machine, idle, operation_of, task_of}
use Rattle.coop_spec.specs.Sound.{sound, sound_task, sound_tasks}
use Rattle.coop_spec.specs.StepRefusals.{needs_65th_tag, through_empty, unsound_step}
use Rattle.coop_spec.specs.Words.{applied, tags_of}
use Rattle.coop_spec.specs.declared.Task.{Task}
use Rattle.coop_model.specs.Heap.{Heap, op}
use Rattle.coop_model.specs.Invariant.{Invariant}
use Rattle.coop_linear.specs.EveryLine.{Fit}
use Rattle.coop_linear.specs.LineOutcomes.{change_at, still_yes}
use Rattle.coop_linear.specs.Named.{Known, KnownIn, Names}
use Rattle.coop_model.specs.Orders.{bucket_after}
use Rattle.coop_model.specs.PositionFacts.{PositionFacts}
use Rattle.coop_model.specs.Positions.{Point, Position, ReturnTo, Role, at100, at101, at102, at107, at109, at120, at121, at122, at123, at127, at129}
use Rattle.coop_model.specs.Positions.{at130, at138, at139, at140, at95, at96, at99, call_at, freezer, invoker, member_112, member_113, no_call}
use Rattle.coop_model.specs.Positions.{response_117, running, runs}
use Rattle.coop_linear.specs.Represents.{Represents}
use Rattle.coop_model.specs.Room.{room}
use Rattle.coop_model.specs.Runs.{Configuration}
use Rattle.coop_linear.specs.Shapes.{Shape}
use Rattle.coop_laws.specs.SoundFacts.{MemoryFacts, facts_sound}
use Rattle.coop_linear.specs.TaskImages.{task_image}
use Rattle.coop_linear.specs.TaskSound.{HelpKnown, OperationKnown, image_sound, kind_number}

pub record Simulates (T : Operations) (y : Machine) (h : Heap) (positions : ℕ → Position) : Type 0 where
  -- in which record a version is
  pub slot : ℕ → ℕ
  pub rep : Represents T y h (Known h.current positions) slot
  pub memory : MemoryFacts y
  pub images : (p : ℕ) → (own : ℕ) × (task_of y p ≡ task_image T slot own (positions p))
  pub below_T : (p : ℕ) (c : AtomicCall) → call_at (positions p) ≡ runs c → p < y.state.tasks
  pub shapes : (p : ℕ) → Shape (positions p)
  -- a running invoke has fixed its operation, and a running get response may be given
  pub invoked : (p n : ℕ) → call_at (positions p) ≡ runs (invoke n) → ¬ ((operation_of y n).kind ≡ 0)
  pub asked : (p n : ℕ) → call_at (positions p) ≡ runs (get_response n) → h.returned n ≡ true

-- ---- tests on tasks, one by one

at_tasks : (y : Machine) (k : ℕ) (cs : List Task) → ((j : ℕ) → sound_task y (k + j) (get_or cs j idle) ≡ true) → sound_tasks y k cs ≡ true
unfolding sound_tasks
at_tasks y k [] h = refl
at_tasks y k (c ∷ cs) h =
    let z : k + 0 ≡ k = omega arith in
    and_i (sound_task y k c) (sound_tasks y (suc k) cs) (subst (λ (n : ℕ). sound_task y n c ≡ true) z (h 0))
    (at_tasks y (suc k) cs (λ j. let q : k + suc j ≡ suc k + j = omega arith in subst (λ (n : ℕ). sound_task y n (get_or cs j idle) ≡ true) q (h (suc j))))

-- ---- lines go through no empty place

point_filled : (T : Operations) (slot : ℕ → ℕ) (own : ℕ) (j : Role) (l : Point) → through_empty (task_image T slot own (running j l)) ≡ false
unfolding through_empty member
point_filled T slot own j at95 = refl
point_filled T slot own j at96 = refl
point_filled T slot own j at99 = refl
point_filled T slot own j (at100 o) = rw (true_filled (link (slot o)) (omega arith))
point_filled T slot own j (at101 o) = refl
point_filled T slot own j (at102 m o) = rw (true_filled (link (slot o)) (omega arith))
point_filled T slot own j (at107 m) = refl
point_filled T slot own j at109 = refl
point_filled T slot own j at120 = refl
point_filled T slot own j at121 = refl
point_filled T slot own j (at122 o) = rw (true_filled (link (slot o)) (omega arith))
point_filled T slot own j (at123 o) = rw (true_filled (link (slot o)) (omega arith))
point_filled T slot own j at127 = refl
point_filled T slot own j (at129 b) = refl
point_filled T slot own j (at130 b o) = rw (true_filled (link (slot o)) (omega arith))
point_filled T slot own j (at138 b o m) = rw (true_filled (link (slot o)) (omega arith), true_filled (link m) (omega arith))
point_filled T slot own j (at139 b o m) = rw (true_filled (link m) (omega arith))
point_filled T slot own j (at140 b o m) = rw (true_filled (link (slot o)) (omega arith), true_filled (link m) (omega arith))

image_filled : (T : Operations) (slot : ℕ → ℕ) (own : ℕ) (l : Position) → through_empty (task_image T slot own l) ≡ false
unfolding through_empty member
image_filled T slot own no_call = refl
image_filled T slot own (running j l) = point_filled T slot own j l
image_filled T slot own (member_112 k) = refl
image_filled T slot own (member_113 k o) = rw (true_filled (link (slot o)) (omega arith))
image_filled T slot own (response_117 n) = refl

module _ {T : Operations} {y : Machine} {w : Configuration} (sim : Simulates T y w.heap w.position) {L : List Occurrence} (i : Invariant T w L) where
  abbrev A : FSet
  A = bucket_after T L

  names_known : (p v : ℕ) → Names (w.position p) v → KnownIn w v
  names_known p v n = inr (p, n)

  -- ---- what the model knows of a position is what its record needs

  pub fit : (p : ℕ) (l : Position) {c : AtomicCall} → call_at l ≡ runs c → Shape l → ((v : ℕ) → Names l v → KnownIn w v)
      → PositionFacts T w.heap w.ended L p (w.start p) l → Fit sim.rep l
  fit p no_call e s k o = let z : ◌≡◌ {A = ℕ} 0 1 = cc in absurd (omega arith)
  fit p (running j at95) e s k o = s
  fit p (running j at96) e s k o = s
  fit p (running j at99) e s k o = s
  fit p (running j (at100 v)) e s k o = (k v refl, s)
  fit p (running j (at101 v)) e s k o = (k v refl, s)
  fit p (running j (at102 n v)) e s k o = (k v refl, s)
  fit p (running j (at107 n)) e s k o = s
  fit p (running j at109) e s k o = s
  fit p (running j at120) e s k o = tt
  fit p (running j at121) e s k o = tt
  fit p (running j (at122 v)) e s k o = k v refl
  fit p (running j (at123 v)) e s k o = k v refl
  fit p (running j at127) e s k o = tt
  fit p (running j (at129 b)) e s k o = s
  fit p (running j (at130 b v)) e s k o = (k v refl, s)
  fit p (running j (at138 b v m)) e s k o = (k v refl, o.0.0, s)
  fit p (running j (at139 b v m)) e s k o = (k v refl, o.0.0, s)
  fit p (running j (at140 b v m)) e s k o = (k v refl, o.0.0, s)
  fit p (member_112 t) e s k o = tt
  fit p (member_113 t v) e s k o = k v refl
  fit p (response_117 n) e s k o = tt

  found_known : (v m : ℕ) → w.heap.op_at v ≡ op m → (m < 64) × (¬ ((operation_of y m).kind ≡ 0))
  found_known v m e = (i.heap.numbers_low v m e, sim.rep.in_use v m e)

  help_known : (p own : ℕ) (l : Position) → PositionFacts T w.heap w.ended L p (w.start p) l → HelpKnown T y sim.slot own l
  help_known p own no_call o = tt
  help_known p own (running j at95) o = λ n h. absurd h
  help_known p own (running j at96) o = λ n h. absurd h
  help_known p own (running j at99) o = λ n h. absurd h
  help_known p own (running j (at100 v)) o = λ n h. absurd h
  help_known p own (running j (at101 v)) o = λ n h. absurd h
  help_known p own (running j (at102 m v)) o = λ n h. absurd h
  help_known p own (running j (at107 m)) o = λ n h. absurd h
  help_known p own (running j at109) o = λ n h. absurd h
  help_known p own (running j at120) o = λ n h. absurd h
  help_known p own (running j at121) o = λ n h. absurd h
  help_known p own (running j (at122 v)) o = λ n h. absurd h
  help_known p own (running j (at123 v)) o = λ n h. absurd h
  help_known p own (running j at127) o = λ n h. absurd h
  help_known p own (running j (at129 b)) o = λ n h. absurd h
  help_known p own (running j (at130 b v)) o = λ n h. absurd h
  help_known p own (running j (at138 b v m)) o = λ n h. found_known v n (o.0.0 ∙ ap op (sym h))
  help_known p own (running j (at139 b v m)) o = λ n h. found_known v n (o.0.0 ∙ ap op (sym h))
  help_known p own (running j (at140 b v m)) o = λ n h. found_known v n (o.0.0 ∙ ap op (sym h))
  help_known p own (member_112 k) o = tt
  help_known p own (member_113 k v) o = tt
  help_known p own (response_117 n) o = tt

  operation_known : (p : ℕ) (l : Position) → w.position p ≡ l → Shape l → OperationKnown T y l
  operation_known p no_call e s = tt
  operation_known p (running (invoker n) l) e s =
      let d = sim.invoked p n (ap call_at e) in
      (i.numbers_low p n (ap call_at e), kind_number (operation_of y n).kind (T.inserts n) d (sim.memory.kind_known n) (sim.rep.types n d).0)
  operation_known p (running freezer l) e s = tt
  operation_known p (member_112 k) e s = tt
  operation_known p (member_113 k o) e s = tt
  operation_known p (response_117 n) e s = (s, sim.rep.same_returned n ∙ sim.asked p n (ap call_at e))

  -- ---- the words are sound

  pub task_sound : (p : ℕ) → sound_task y p (task_of y p) ≡ true
  task_sound p =
      let m = sim.images p in
      rw m.1 (
      image_sound T y sim.slot m.0 p (w.position p) (sim.below_T p) (sim.shapes p) (operation_known p (w.position p) refl (sim.shapes p))
      (help_known p m.0 (w.position p) (i.task p))
      (λ v n. sim.rep.below v (names_known p v n))
      )

  pub sound_now : sound y ≡ true
  unfolding task_of
  sound_now =
      facts_sound y sim.memory returned_done
      (rw sim.rep.same_node (sim.rep.below w.heap.current (inl refl))) sim.rep.length_right
      (at_tasks y 0 y.state.task (λ j. subst (λ (n : ℕ). sound_task y n (get_or y.state.task j idle) ≡ true) (omega arith) (task_sound j)))
    where
      returned_done : (n : ℕ) → (operation_of y n).returned ≡ true → (operation_of y n).done ≡ true
      returned_done n e = sim.rep.same_done n ∙ i.heap.returned_done n (sym (sim.rep.same_returned n) ∙ e)

  -- ---- no version needs a 65th tag

  room_140 : (p own : ℕ) (j : Role) (b : ReturnTo) (o m : ℕ) → KnownIn w o → w.heap.op_at o ≡ op m
      → needs_65th_tag y (task_image T sim.slot own (running j (at140 b o m))) ≡ false
  unfolding needs_65th_tag
  room_140 p own j b o m k e =
      and_never (eqb y.state.node (number (link (sim.slot o))))
      (ltb 64 (length (applied (operation_of y (number (link m))) (tags_of y (number (link (sim.slot o)))))))
      (λ t.
      let q = still_yes sim.rep own o k m e t in
      let few = room T w.heap A i.heap m (ap w.heap.op_at (sym q) ∙ e) in
      le-ltb 64 (length (applied (operation_of y (number (link m))) (tags_of y (number (link (sim.slot o)))))) (rw (change_at sim.rep own o k m e, q) few))

  image_room : (p own : ℕ) (l : Position) → ((v : ℕ) → Names l v → KnownIn w v) → PositionFacts T w.heap w.ended L p (w.start p) l
      → needs_65th_tag y (task_image T sim.slot own l) ≡ false
  unfolding needs_65th_tag
  image_room p own no_call k o = refl
  image_room p own (running j at95) k o = refl
  image_room p own (running j at96) k o = refl
  image_room p own (running j at99) k o = refl
  image_room p own (running j (at100 v)) k o = refl
  image_room p own (running j (at101 v)) k o = refl
  image_room p own (running j (at102 m v)) k o = refl
  image_room p own (running j (at107 m)) k o = refl
  image_room p own (running j at109) k o = refl
  image_room p own (running j at120) k o = refl
  image_room p own (running j at121) k o = refl
  image_room p own (running j (at122 v)) k o = refl
  image_room p own (running j (at123 v)) k o = refl
  image_room p own (running j at127) k o = refl
  image_room p own (running j (at129 b)) k o = refl
  image_room p own (running j (at130 b v)) k o = refl
  image_room p own (running j (at138 b v m)) k o = refl
  image_room p own (running j (at139 b v m)) k o = refl
  image_room p own (running j (at140 b v m)) k o = room_140 p own j b v m (k v refl) o.0.0
  image_room p own (member_112 t) k o = refl
  image_room p own (member_113 t v) k o = refl
  image_room p own (response_117 n) k o = refl

  pub no_65th : No65thTag y
  no_65th p = let m = sim.images p in rw m.1 (image_room p m.0 (w.position p) (names_known p) (i.task p))

  -- ---- no step is refused with 8
  pub step_sound : (p : ℕ) → unsound_step y (task_of y p) ≡ false
  unfolding unsound_step
  step_sound p =
      or_none_i (through_empty (task_of y p)) (needs_65th_tag y (task_of y p))
      (rw (sim.images p).1 (image_filled T sim.slot (sim.images p).0 (w.position p)))
      (no_65th p)
