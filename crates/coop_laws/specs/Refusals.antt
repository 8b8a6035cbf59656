-- "Refusals 4 to 8 in their meaning there": each is given exactly under its condition, and a refused start or step changes nothing. Of any
-- memory, sound or not. Assumes nothing.
use Rattle.std.specs.Prelude.{◌+◌, ◌/◌, ◌<◌, ◌≤◌, min, ℕ, Bool, ◌||◌, true, List, ◌↔◌, ◌⊎◌, ◌≡◌, refl, eqb, ltb, length, if◌then◌else◌, Ok, Err}
use Rattle.std.proofs.Math.Bool.{false, not}
use Rattle.std.proofs.Math.Logic.{inl, inr}
use Rattle.std.proofs.Common.{sym, arith}
use borrow.Author.Tests.{eq-eqb, eqb-true, le-ltb, lt-ltb, ltb-false, ltb-true, not-false, not-true}
use Rattle.coop_spec.specs.declared.Refusal.{Refusal}
use Rattle.coop_spec.specs.declared.Refusal.TheVariants.{NoTask, NotStarted, Idle, NoVersion, Spoilt}
use Rattle.spec.specs.Entries.{pool_fits}
use Rattle.spec.specs.Sound.{within}
use Rattle.laws.specs.Tests.{and_i, and_left, and_right, bool?, choose, or_e, or_l, or_r, tf}
use Rattle.coop_spec.specs.Entries.{Opened, Reply, accept, finish, fits_type, fresh_machine, may_start, not_opened, opening, refuse}
use Rattle.coop_spec.specs.Entries.{start, step, step_running}
use Rattle.coop_spec.specs.Lines.{Effect, Next, effect, ends, on}
use Rattle.coop_spec.specs.Machine.{Machine, machine_of, operation_of, state_of, task_of}
use Rattle.coop_spec.specs.Sound.{sound}
use Rattle.coop_spec.specs.StepRefusals.{all_held, unsound_step}
use Rattle.coop_spec.specs.Words.{apply_all}
use Rattle.coop_spec.specs.declared.Call.{Call}
use Rattle.coop_spec.specs.declared.Call.TheVariants.{Freeze, GetResponse, HasMember, InvokeInsert, InvokeRemove}
use Rattle.coop_spec.specs.declared.Operation.{Operation}
use Rattle.coop_laws.specs.Seven.{AllHeld, means_seven, seven_means}
use Rattle.coop_spec.specs.declared.Progress.TheVariants as Outs
use Rattle.coop_spec.specs.Outputs.{Output}

at_not_refused : {l : ℕ} {r : Refusal} → ◌≡◌ {A = Output} (Ok (Outs.At l)) (Err r) → ⊥
at_not_refused e = let z : ◌≡◌ {A = ℕ} 0 1 = cc in omega arith

refusal_same : {r s : Refusal} → ◌≡◌ {A = Output} (Err r) (Err s) → r ≡ s
refusal_same e = cc

accept_not_refused : (y : Machine) (p own : ℕ) (e : Effect) {r : Refusal} → (accept y p own e).out ≡ Err r → ⊥
unfolding accept finish
accept_not_refused y p own e h = go e.next h
  where
    go : (n : Next) {r : Refusal} → (finish (apply_all e.writes y) p (min (own + 1) 65535) n).out ≡ Err r → ⊥
    go (on c) h = at_not_refused h
    go (ends a) h = let z : ◌≡◌ {A = ℕ} 0 1 = cc in omega arith

-- ---- openings: "T as before and 1 to 1,024 versions, else 1 or 3"

abbrev opened_with : ℕ → List ℕ → Opened
opened_with t ws = record { refusal = 0; machine = fresh_machine t (length ws / 66) }

pub opening_refusal : (t : ℕ) (ws : List ℕ)
    → (opening t ws).refusal ≡ (if not (within 1 8 t) then 1 else if not (pool_fits 66 1024 (length ws)) then 3 else 0)
unfolding opening not_opened
opening_refusal t ws = go (not (within 1 8 t)) (not (pool_fits 66 1024 (length ws)))
  where
    go : (a b : Bool) → (if a then not_opened 1 ws else if b then not_opened 3 ws else opened_with t ws).refusal ≡ (if a then 1 else if b then 3 else 0)
    go true b = refl
    go false true = refl
    go false false = refl

-- "A refused opening gives a state of all zeros", and the slice keeps every word
pub refused_opening_changes_nothing : (t : ℕ) (ws : List ℕ) → ¬ ((opening t ws).refusal ≡ 0) → (opening t ws).machine ≡ machine_of (state_of 0 0) ws
unfolding opening not_opened
refused_opening_changes_nothing t ws = go (not (within 1 8 t)) (not (pool_fits 66 1024 (length ws)))
  where
    Unchanged : Opened → Type 0
    Unchanged o = ¬ (o.refusal ≡ 0) → o.machine ≡ machine_of (state_of 0 0) ws

    go : (a b : Bool) → Unchanged (if a then not_opened 1 ws else if b then not_opened 3 ws else opened_with t ws)
    go true b d = refl
    go false true d = refl
    go false false d = absurd (d refl)

-- ---- starts

-- "an invoke with others, or of a number past 63, gives 5"; "a get response is started only after an invoke of that operation has ended true"
abbrev pub Allowed : Machine → Call → ℕ → ℕ → Type 0
Allowed y InvokeInsert n k = (n < 64) × (((operation_of y n).kind ≡ 0) ⊎ (((operation_of y n).kind ≡ 1) × ((operation_of y n).tag ≡ k)))
Allowed y InvokeRemove n k = (n < 64) × (((operation_of y n).kind ≡ 0) ⊎ (((operation_of y n).kind ≡ 2) × ((operation_of y n).tag ≡ k)))
Allowed y Freeze n k = Unit {0}
Allowed y HasMember n k = Unit {0}
Allowed y GetResponse n k = (n < 64) × ((operation_of y n).returned ≡ true)

module _ (q : Operation) (kind tag : ℕ) where
  fits_means : fits_type q kind tag ≡ true → (q.kind ≡ 0) ⊎ ((q.kind ≡ kind) × (q.tag ≡ tag))
  unfolding fits_type
  fits_means e = elim (or_e (eqb q.kind 0) _ e) [
    | inl a ↦ inl (eqb-true q.kind 0 a)
    | inr a ↦ inr (eqb-true q.kind kind (and_left (eqb q.kind kind) _ a), eqb-true q.tag tag (and_right (eqb q.kind kind) _ a))
  ]

  means_fits : (q.kind ≡ 0) ⊎ ((q.kind ≡ kind) × (q.tag ≡ tag)) → fits_type q kind tag ≡ true
  unfolding fits_type
  means_fits (inl a) = or_l (eqb q.kind 0) _ (eq-eqb q.kind 0 a)
  means_fits (inr a) =
      or_r (eqb q.kind 0) _
      (and_i (eqb q.kind kind) (eqb q.tag tag) (eq-eqb q.kind kind a.0) (eq-eqb q.tag tag a.1))

pub allowed_iff : (y : Machine) (call : Call) (n k : ℕ) → (may_start y call n k ≡ true) ↔ Allowed y call n k
unfolding may_start
allowed_iff y InvokeInsert n k = (
  λ e. (ltb-true n 64 (and_left (ltb n 64) _ e), fits_means (operation_of y n) 1 k (and_right (ltb n 64) _ e)),
  λ a. and_i (ltb n 64) (fits_type (operation_of y n) 1 k) (lt-ltb n 64 a.0) (means_fits (operation_of y n) 1 k a.1),
)
allowed_iff y InvokeRemove n k = (
  λ e. (ltb-true n 64 (and_left (ltb n 64) _ e), fits_means (operation_of y n) 2 k (and_right (ltb n 64) _ e)),
  λ a. and_i (ltb n 64) (fits_type (operation_of y n) 2 k) (lt-ltb n 64 a.0) (means_fits (operation_of y n) 2 k a.1),
)
allowed_iff y Freeze n k = (λ e. tt, λ a. refl)
allowed_iff y HasMember n k = (λ e. tt, λ a. refl)
allowed_iff y GetResponse n k = (
  λ e. (ltb-true n 64 (and_left (ltb n 64) _ e), and_right (ltb n 64) _ e),
  λ a. and_i (ltb n 64) (operation_of y n).returned (lt-ltb n 64 a.0) a.1,
)

-- 8, 4, 5
pub data StartRefused (y : Machine) (p : ℕ) (call : Call) (n k : ℕ) (r : Refusal) : Type 0 where
  is_8 : r ≡ Spoilt → sound y ≡ false → StartRefused y p call n k r
  is_4 : r ≡ NoTask → sound y ≡ true → y.state.tasks ≤ p → StartRefused y p call n k r
  is_5_running : r ≡ NotStarted → sound y ≡ true → p < y.state.tasks → (task_of y p).running ≡ true → StartRefused y p call n k r
  is_5_barred : r ≡ NotStarted → sound y ≡ true → p < y.state.tasks → (task_of y p).running ≡ false → ¬ Allowed y call n k
      → StartRefused y p call n k r

module _ (y : Machine) (p : ℕ) (call : Call) (n k : ℕ) (r : Refusal) where
  start_means : (start y p call n k).out ≡ Err r → StartRefused y p call n k r
  unfolding start refuse
  start_means =
      choose P (not (sound y)) _ _ (λ a e. is_8 (sym (refusal_same e)) (not-true (sound y) a))
      (λ a. choose P (not (ltb p y.state.tasks)) _ _
      (λ b e. is_4 (sym (refusal_same e)) (not-false (sound y) a) (ltb-false p _ (not-true (ltb p y.state.tasks) b)))
      (λ b. choose P ((task_of y p).running || not (may_start y call n k)) _ _
      (λ c e. five (not-false (sound y) a) (ltb-true p _ (not-false (ltb p y.state.tasks) b)) c (sym (refusal_same e)))
      (λ c e. absurd (at_not_refused e))))
    where
      P : Reply → Type 0
      P m = m.out ≡ Err r → StartRefused y p call n k r

      five : sound y ≡ true → p < y.state.tasks → ((task_of y p).running || not (may_start y call n k)) ≡ true → r ≡ NotStarted
          → StartRefused y p call n k r
      five s b c e = go (bool? (task_of y p).running)
        where
          go : ((task_of y p).running ≡ true) ⊎ ((task_of y p).running ≡ false) → StartRefused y p call n k r
          go (inl x) = is_5_running e s b x
          go (inr x) = elim (or_e (task_of y p).running _ c) [
            | inl z ↦ absurd (tf z x)
            | inr z ↦ is_5_barred e s b x (λ a. tf ((allowed_iff y call n k).1 a) (not-true (may_start y call n k) z))
          ]

  means_start : StartRefused y p call n k r → (start y p call n k).out ≡ Err r
  unfolding start refuse
  means_start (is_8 e s) = rw (e, s)
  means_start (is_4 e s b) = rw (e, s, le-ltb p y.state.tasks b)
  means_start (is_5_running e s b x) = rw (e, s, lt-ltb p y.state.tasks b, x)
  means_start (is_5_barred e s b x a) = rw (e, s, lt-ltb p y.state.tasks b, x, barred (bool? (may_start y call n k)))
    where
      barred : (may_start y call n k ≡ true) ⊎ (may_start y call n k ≡ false) → may_start y call n k ≡ false
      barred (inl z) = absurd (a ((allowed_iff y call n k).0 z))
      barred (inr z) = z

  pub start_refused_iff : ((start y p call n k).out ≡ Err r) ↔ StartRefused y p call n k r
  start_refused_iff = (start_means, means_start)

  pub refused_start_changes_nothing : (start y p call n k).out ≡ Err r → (start y p call n k).machine ≡ y
  unfolding start refuse
  refused_start_changes_nothing =
      choose P (not (sound y)) _ _ (λ a e. refl)
      (λ a. choose P (not (ltb p y.state.tasks)) _ _ (λ b e. refl)
      (λ b. choose P ((task_of y p).running || not (may_start y call n k)) _ _ (λ c e. refl) (λ c e. absurd (at_not_refused e))))
    where
      P : Reply → Type 0
      P m = m.out ≡ Err r → m.machine ≡ y

-- ---- steps: 8, 4, 6, 8 of the step, 7

pub data StepRefused (y : Machine) (p : ℕ) (r : Refusal) : Type 0 where
  is_8 : r ≡ Spoilt → sound y ≡ false → StepRefused y p r
  is_4 : r ≡ NoTask → sound y ≡ true → y.state.tasks ≤ p → StepRefused y p r
  is_6 : r ≡ Idle → sound y ≡ true → p < y.state.tasks → (task_of y p).running ≡ false → StepRefused y p r
  is_8_step : r ≡ Spoilt → sound y ≡ true → p < y.state.tasks → (task_of y p).running ≡ true → unsound_step y (task_of y p) ≡ true
      → StepRefused y p r
  is_7 : r ≡ NoVersion → sound y ≡ true → p < y.state.tasks → (task_of y p).running ≡ true → unsound_step y (task_of y p) ≡ false
      → AllHeld y (task_of y p) → StepRefused y p r

module _ (y : Machine) (p : ℕ) (r : Refusal) where
  step_means : (step y p).out ≡ Err r → StepRefused y p r
  unfolding step step_running refuse
  step_means =
      choose P (not (sound y)) _ _ (λ a e. is_8 (sym (refusal_same e)) (not-true (sound y) a))
      (λ a. choose P (not (ltb p y.state.tasks)) _ _
      (λ b e. is_4 (sym (refusal_same e)) (sound_so a) (ltb-false p y.state.tasks (not-true (ltb p y.state.tasks) b)))
      (λ b. choose P (not (task_of y p).running) _ _
      (λ c e. is_6 (sym (refusal_same e)) (sound_so a) (below b) (not-true (task_of y p).running c))
      (λ c. choose P (unsound_step y (task_of y p)) _ _ (λ d e. is_8_step (sym (refusal_same e)) (sound_so a) (below b) (runs c) d)
      (λ d. choose P (all_held y (task_of y p)) _ _
      (λ f e. is_7 (sym (refusal_same e)) (sound_so a) (below b) (runs c) d (seven_means y (sound_so a) (task_of y p) f))
      (λ f e. absurd (accept_not_refused y p (task_of y p).own (effect y (task_of y p)) e))))))
    where
      P : Reply → Type 0
      P m = m.out ≡ Err r → StepRefused y p r

      sound_so : not (sound y) ≡ false → sound y ≡ true
      sound_so a = not-false (sound y) a

      below : not (ltb p y.state.tasks) ≡ false → p < y.state.tasks
      below b = ltb-true p y.state.tasks (not-false (ltb p y.state.tasks) b)

      runs : not (task_of y p).running ≡ false → (task_of y p).running ≡ true
      runs c = not-false (task_of y p).running c

  means_step : StepRefused y p r → (step y p).out ≡ Err r
  unfolding step step_running refuse
  means_step (is_8 e s) = rw (e, s)
  means_step (is_4 e s b) = rw (e, s, le-ltb p y.state.tasks b)
  means_step (is_6 e s b x) = rw (e, s, lt-ltb p y.state.tasks b, x)
  means_step (is_8_step e s b x u) = rw (u, e, s, lt-ltb p y.state.tasks b, x)
  means_step (is_7 e s b x u h) = rw (u, means_seven y s (task_of y p) h, e, s, lt-ltb p y.state.tasks b, x)

  pub step_refused_iff : ((step y p).out ≡ Err r) ↔ StepRefused y p r
  step_refused_iff = (step_means, means_step)

  pub refused_step_changes_nothing : (step y p).out ≡ Err r → (step y p).machine ≡ y
  unfolding step step_running refuse
  refused_step_changes_nothing =
      choose P (not (sound y)) _ _ (λ a e. refl)
      (λ a. choose P (not (ltb p y.state.tasks)) _ _ (λ b e. refl)
      (λ b. choose P (not (task_of y p).running) _ _ (λ c e. refl)
      (λ c. choose P (unsound_step y (task_of y p)) _ _ (λ d e. refl)
      (λ d. choose P (all_held y (task_of y p)) _ _ (λ f e. refl)
      (λ f e. absurd (accept_not_refused y p (task_of y p).own (effect y (task_of y p)) e))))))
    where
      P : Reply → Type 0
      P m = m.out ≡ Err r → m.machine ≡ y
