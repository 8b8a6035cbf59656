-- Once the bucket is frozen it stays so: in every continuation of a schedule it has the same version, with the same 66 words
-- (`frozen_for_good`). A freeze answers with the number of the bucket's version, which is frozen then (`freeze_answers`): so that number means one
-- set for good. For a line puts an op only into a version that has none, and takes a version only where the bucket's has an operation.
-- Assumes nothing.
use Rattle.std.specs.Prelude.{◌*◌, ◌+◌, suc, ℕ, ◌||◌, not, true, List, [], ◌∷◌, ◌++◌, ◌≡◌, eqb, ltb, drop, get_or, set, take, Ok}
use Rattle.std.proofs.Common.{inr, ◌∙◌, ap, subst, sym, arith, eq-eqb, length-set, get_or-drop, get_or-set_other, get_or-take}
use Rattle.std.proofs.Math.Path.{refl}
use Rattle.laws.specs.Overwrite.{same_part}
use Rattle.laws.specs.Tests.{choose}
use Rattle.coop_spec.specs.Atomic.{Operations}
use Rattle.coop_spec.specs.Entries.{Reply, accept, finish, fixing, may_start, opening, refuse, start, step}
use Rattle.coop_spec.specs.History.{History, extended, history_from, no_history, operations}
use Rattle.coop_spec.specs.Lines.{Effect, Next, effect, ends, frozen, on}
use Rattle.coop_spec.specs.Machine.{Machine, set_operation, set_task, task_of, with_flag, with_operations, with_state, with_task, with_versions}
use Rattle.coop_spec.specs.Schedule.{Event, event, run, run_opened, schedule, starts, steps}
use Rattle.coop_spec.specs.Sound.{sound}
use Rattle.coop_spec.specs.Words.{apply, apply_all, current, op_word}
use Rattle.coop_spec.specs.declared.Answer.{Answer}
use Rattle.coop_spec.specs.declared.Answer.TheVariants.{Version}
use Rattle.coop_spec.specs.declared.Call.{Call}
use Rattle.coop_spec.specs.declared.Call.TheVariants.{Freeze, GetResponse, HasMember, InvokeInsert, InvokeRemove}
use Rattle.coop_spec.specs.declared.Progress.TheVariants as Outs
use Rattle.coop_laws.specs.Fixed.{Agrees, agrees_before, agrees_itself}
use Rattle.coop_model.specs.Heap.{Heap, bottom, nil}
use Rattle.coop_model.specs.HeapInvariant.{bottom_not_op, nil_not_bottom}
use Rattle.coop_model.proofs.Linearization.{invariant}
use Rattle.coop_model.specs.PositionFacts.{PositionFacts}
use Rattle.coop_model.specs.Positions.{Position, at127, freezer, running}
use Rattle.coop_linear.specs.Events.{Before, StepView, event_next, line_done, step_refused, step_view}
use Rattle.coop_linear.specs.LineOutcomes.{Does, advances, gives_version, goes, marks_done, puts_bottom, puts_op, raises, responds}
use Rattle.coop_linear.specs.LineOutcomes.{returns_advancing, returns_only, says_no, says_yes}
use Rattle.coop_linear.specs.Named.{Names}
use Rattle.coop_linear.specs.Opening.{opening_before}
use Rattle.coop_linear.specs.Represents.{Represents, current_word, field_word, frozen_yes}
use Rattle.coop_linear.specs.Schedules.{history_machine, run_simulated, run_types}

-- the version that the bucket has, and its words
abbrev pub bucket : Machine → ℕ × List ℕ
bucket y = (current y, take 66 (drop (66 * current y) y.versions))

-- the first of them tells whether it is frozen
still_frozen : (y z : Machine) → bucket z ≡ bucket y → frozen y ≡ true → frozen z ≡ true
unfolding op_word
still_frozen y z s e =
    ap (λ (m : ℕ). eqb m 1) (sym (first z) ∙ ap (λ (b : ℕ × List ℕ). get_or b.1 0 0) s ∙ first y) ∙ e
  where
    first : (x : Machine) → get_or (bucket x).1 0 0 ≡ get_or x.versions (66 * current x) 0
    first x =
        let words = drop (66 * current x) x.versions in
        let at : 66 * current x + 0 ≡ 66 * current x = omega arith in
        get_or-take 66 words 0 0 (omega arith) ∙ get_or-drop (66 * current x) x.versions 0 0 ∙ ap (λ (i : ℕ). get_or x.versions i 0) at

-- an op written into another version
op_elsewhere : (y : Machine) (k m : ℕ) → ¬ (current y ≡ k) → bucket (with_versions (set y.versions (66 * k) m) y) ≡ bucket y
unfolding with_versions
op_elsewhere y k m d =
    ap (λ (w : List ℕ). (current y, w)) (same_part (set y.versions (66 * k) m) y.versions (66 * current y) 66 (length-set y.versions (66 * k) m)
    (λ j h. get_or-set_other y.versions (66 * k) (66 * current y + j) m 0 (λ q. d (omega arith))))

-- ---- what a line does

other : {A : Type 0} → ◌≡◌ {A = ℕ} 0 1 → A
other z = absurd (omega arith)

module _ {T : Operations} {y : Machine} {h : Heap} {K : ℕ → Type 0} {slot : ℕ → ℕ} (rep : Represents T y h K slot) where
  -- it leaves a frozen bucket, and only at a freeze's line 127 it answers a version: the bucket's
  pub record Leaves (l : Position) (E : Effect) : Type 0 where
    pub same : h.op_at h.current ≡ bottom → bucket (apply_all E.writes y) ≡ bucket y
    pub answers : (v : ℕ) → E.next ≡ ends (Version v) → (slot h.current ≡ v) × (l ≡ running freezer at127)

  none_there : (o : ℕ) → K o → h.op_at o ≡ nil → h.op_at h.current ≡ bottom → ¬ (current y ≡ slot o)
  none_there o k e shut q =
      nil_not_bottom (ap h.op_at (sym (rep.apart o h.current k rep.has_current (sym q ∙ rep.same_node))) ∙ e) shut

  leaves : {own : ℕ} {l : Position} {E : Effect} → ((v : ℕ) → Names l v → K v) → Does rep own l E → Leaves l E
  unfolding apply_all apply with_flag with_state set_operation with_operations
  leaves names (goes t) = record { same = λ s. refl; answers = λ v e. other cc }
  leaves names (raises t) = record { same = λ s. refl; answers = λ v e. other cc }
  leaves names (puts_op {n = n} {o = o} e) =
      record { same = λ s. op_elsewhere y (slot o) (n + 2) (none_there o (names o refl) e s); answers = λ v e. other cc }
  leaves names (puts_bottom {o = o} e) =
      record { same = λ s. op_elsewhere y (slot o) 1 (none_there o (names o refl) e s); answers = λ v e. other cc }
  leaves names responds = record { same = λ s. refl; answers = λ v e. other cc }
  leaves names marks_done = record { same = λ s. refl; answers = λ v e. other cc }
  leaves names (advances q e f t) = record { same = λ s. absurd (bottom_not_op s (ap h.op_at (sym q) ∙ e)); answers = λ v e. other cc }
  leaves names (returns_advancing q e f t) = record { same = λ s. absurd (bottom_not_op s (ap h.op_at (sym q) ∙ e)); answers = λ v e. other cc }
  leaves names (says_no t) = record { same = λ s. refl; answers = λ v e. other cc }
  leaves names (says_yes t) = record { same = λ s. refl; answers = λ v e. other cc }
  leaves names gives_version = record { same = λ s. refl; answers = λ v e. (cc, refl) }
  leaves names (returns_only t) = record { same = λ s. refl; answers = λ v e. other cc }

-- ---- every event

task_same : (y : Machine) (p own : ℕ) (x : Next) → bucket (finish y p own x).machine ≡ bucket y
unfolding finish set_task with_task with_state
task_same y p own (on c) = refl
task_same y p own (ends a) = refl

ended_as : (y : Machine) (p made : ℕ) (x : Next) {a : Answer} {own : ℕ} → (finish y p made x).out ≡ Ok (Outs.End a own) → x ≡ ends a
unfolding finish
ended_as y p made (on c) e = other cc
ended_as y p made (ends a) e = cc

fixing_same : (y : Machine) (call : Call) (n k : ℕ) → bucket (fixing y call n k) ≡ bucket y
unfolding fixing set_operation with_operations with_state
fixing_same y InvokeInsert n k = refl
fixing_same y InvokeRemove n k = refl
fixing_same y Freeze n k = refl
fixing_same y HasMember n k = refl
fixing_same y GetResponse n k = refl

start_same : (y : Machine) (p : ℕ) (call : Call) (n k : ℕ) → bucket (start y p call n k).machine ≡ bucket y
unfolding start refuse set_task with_task with_state
start_same y p call n k =
    choose P (not (sound y)) _ _ (λ t. refl)
    (λ t. choose P (not (ltb p y.state.tasks)) _ _ (λ t. refl)
    (λ t. choose P ((task_of y p).running || not (may_start y call n k)) _ _ (λ t. refl) (λ t. fixing_same y call n k)))
  where
    P : Reply → Type 0
    P r = bucket r.machine ≡ bucket y

module _ {T : Operations} {n : ℕ} {s : History} (b : Before T n s) where
  line_leaves : (p : ℕ) {E : Effect} {own : ℕ} → Does b.sim.rep own (b.configuration.position p) E
      → Leaves b.sim.rep (b.configuration.position p) E
  line_leaves p d = leaves b.sim.rep (λ v z. inr (p, z)) d

  event_same : frozen s.machine ≡ true → (e : Event) → bucket (event s.machine e).machine ≡ bucket s.machine
  unfolding event refuse accept
  event_same shut (starts p call i k) = start_same s.machine p call i k
  event_same shut (steps p) = go (step_view b p)
    where
      go : {m : Reply} → StepView b p m → bucket m.machine ≡ bucket s.machine
      go (step_refused r d) = refl
      go (line_done r free d) = task_same _ p _ (effect s.machine (task_of s.machine p)).next
          ∙ (line_leaves p d).same (frozen_yes b.sim.rep shut)

  -- line 127 is reached with a frozen bucket only
  frozen_at_127 : (p : ℕ) → b.configuration.position p ≡ running freezer at127 → frozen s.machine ≡ true
  frozen_at_127 p e =
      let i = invariant b.reach in
      let w = b.configuration in
      let facts = subst (PositionFacts T w.heap w.ended i.0 p (w.start p)) e (i.1.task p) in
      eq-eqb _ 1 (current_word b.sim.rep ∙ ap field_word facts.0)

  answers_version : (p v own : ℕ) → (step s.machine p).out ≡ Ok (Outs.End (Version v) own) → (current s.machine ≡ v) × (frozen s.machine ≡ true)
  unfolding refuse accept
  answers_version p v own = go (step_view b p)
    where
      go : {m : Reply} → StepView b p m → m.out ≡ Ok (Outs.End (Version v) own) → (current s.machine ≡ v) × (frozen s.machine ≡ true)
      go (step_refused r d) e = other cc
      go (line_done r free d) e =
          let f = (line_leaves p d).answers v (ended_as _ p _ (effect s.machine (task_of s.machine p)).next e) in
          (b.sim.rep.same_node ∙ f.0, frozen_at_127 p f.1)

-- ---- schedules

run_same : (T : Operations) (n : ℕ) (s : History) → Before T n s → frozen s.machine ≡ true → (fs : List Event) → Agrees T (run s.machine fs).machine
    → bucket (run s.machine fs).machine ≡ bucket s.machine
unfolding run history_from extended
run_same T n s b shut [] a = refl
run_same T n s b shut (e ∷ fs) a =
    let z = (event s.machine e).machine in
    let one = event_same b shut e in
    let next = (event_next b e (agrees_before T z (run z fs).machine (run_types fs z) a)).0 in
    run_same T (suc n) (extended n s e (event s.machine e)) next (still_frozen s.machine z one shut) fs a ∙ one

run_both : (y : Machine) (es fs : List Event) → (run y (es ++ fs)).machine ≡ (run (run y es).machine fs).machine
unfolding run
run_both y [] fs = refl
run_both y (e ∷ es) fs = run_both (event y e).machine es fs

module _ (t : ℕ) (ws : List ℕ) (ok : (opening t ws).refusal ≡ 0) where
  abbrev y₀ : Machine
  y₀ = (opening t ws).machine

  runs_from : (es : List Event) → (schedule t ws es).machine ≡ (run y₀ es).machine
  unfolding schedule run_opened
  runs_from es = rw (eq-eqb (opening t ws).refusal 0 ok)

  -- after some events, with the types that the operations have after more
  module _ (es fs : List Event) where
    abbrev T : Operations
    T = operations (run (run y₀ es).machine fs).machine

    abbrev told : History
    told = history_from 0 (no_history y₀) es

    before : (n : ℕ) × Before T n told
    before =
        (run_simulated T 0 (no_history y₀) (opening_before T t ws ok) es
        (agrees_before T (run y₀ es).machine (run (run y₀ es).machine fs).machine (run_types fs (run y₀ es).machine) (agrees_itself _))).0

    here : told.machine ≡ (schedule t ws es).machine
    here = history_machine 0 (no_history y₀) es ∙ sym (runs_from es)

    pub frozen_for_good : frozen (schedule t ws es).machine ≡ true → bucket (schedule t ws (es ++ fs)).machine ≡ bucket (schedule t ws es).machine
    frozen_for_good shut =
        let agrees : Agrees T (run told.machine fs).machine = rw (history_machine 0 (no_history y₀) es) (agrees_itself _) in
        rw (runs_from (es ++ fs), run_both y₀ es fs, ← runs_from es, ← here) (run_same T before.0 told before.1 (ap frozen here ∙ shut) fs agrees)

  -- "127 return b.node.set": the number that a freeze answers is the bucket's version, which is frozen
  pub freeze_answers : (es : List Event) (p v own : ℕ) → (step (schedule t ws es).machine p).out ≡ Ok (Outs.End (Version v) own)
      → (current (schedule t ws es).machine ≡ v) × (frozen (schedule t ws es).machine ≡ true)
  freeze_answers es p v own e =
      rw (← here es []) (answers_version (before es []).1 p v own (ap (λ (y : Machine). (step y p).out) (here es []) ∙ e))
