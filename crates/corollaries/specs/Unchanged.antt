-- "A refusal gives only its number; state and slices keep every word. A refused opening gives a state of all zeros.": a theorem
-- for each entry. Assumes nothing.
use Rattle.std.specs.Prelude.{ℕ, ◌≡◌, refl, not, ◌||◌, List, ltb, leb, length, Ok, Err}
use Rattle.std.proofs.Common.{arith}
use Rattle.spec.specs.declared.Refusal.{Refusal}
use Rattle.spec.specs.declared.Call.{Call}
use Rattle.spec.specs.declared.Progress.TheVariants.{At}
use Rattle.spec.specs.Machine.{Machine, machine_of, state_of, task_of, zero_config}
use Rattle.spec.specs.declared.Config.{Config}
use Rattle.spec.specs.Sound.{within, version_known, sound}
use Rattle.spec.specs.Listed.{listed}
use Rattle.spec.specs.Lines.{Next, on, ends, Effect, effect}
use Rattle.spec.specs.StepRefusals.{unsound_step, all_held}
use Rattle.spec.specs.Entries.{Opened, opening, not_opened, pool_fits, Reply, refuse, withdrawn, start, finish, accept, step_running, step, Written, list}
use Rattle.spec.specs.Schedule.{Event, starts, steps, event}
use Rattle.spec.specs.Outputs.{Output}
use Rattle.laws.specs.Tests.{choose}

-- ---- an accepted event's output is no refusal

pub at_refused : {l : ℕ} {r : Refusal} → ◌≡◌ {A = Output} (Ok (At l)) (Err r) → ⊥
at_refused e = let z : ◌≡◌ {A = ℕ} 0 1 = cc in omega arith

finish_refused : (y : Machine) (k own : ℕ) (n : Next) {r : Refusal} → (finish y k own n).out ≡ Err r → ⊥
unfolding finish
finish_refused y k own (on c) e = at_refused e
finish_refused y k own (ends a l) e = let z : ◌≡◌ {A = ℕ} 0 1 = cc in omega arith

pub accept_refused : (y : Machine) (k own : ℕ) (e : Effect) {r : Refusal} → (accept y k own e).out ≡ Err r → ⊥
unfolding accept
accept_refused y k own e h = finish_refused _ k _ e.next h

-- ---- starts and steps

module _ (y : Machine) (k : ℕ) (r : Refusal) where
  abbrev Unchanged : Reply → Type 0
  Unchanged x = x.out ≡ Err r → x.machine ≡ y

  -- a refused start leaves the state and both pools as they were
  pub refused_start_changes_nothing : (call : Call) (tag : ℕ) → (start y k call tag).out ≡ Err r → (start y k call tag).machine ≡ y
  unfolding start refuse
  refused_start_changes_nothing call tag =
      choose Unchanged (not (sound y)) _ _ (λ p e. refl) (λ p.
      choose Unchanged (not (ltb k y.state.config.tasks)) _ _ (λ q e. refl) (λ q.
      choose Unchanged (task_of y k).running _ _ (λ s e. refl) (λ s.
      choose Unchanged (withdrawn y.state.config call tag) _ _ (λ w e. refl) (λ w e. absurd (at_refused e)))))

  -- a refused step leaves the state and both pools as they were: with 7 "the task still stands there"
  pub refused_step_changes_nothing : (step y k).out ≡ Err r → (step y k).machine ≡ y
  unfolding step step_running refuse
  refused_step_changes_nothing =
      choose Unchanged (not (sound y)) _ _ (λ p e. refl) (λ p.
      choose Unchanged (not (ltb k y.state.config.tasks)) _ _ (λ q e. refl) (λ q.
      choose Unchanged (not (task_of y k).running) _ _ (λ s e. refl) (λ s.
      choose Unchanged (unsound_step y (task_of y k)) _ _ (λ u e. refl) (λ u.
      choose Unchanged (all_held y (task_of y k)) _ _ (λ v e. refl) (λ v e. absurd (accept_refused y k _ (effect y (task_of y k)) e))))))

-- both: a refused event of a schedule
pub refused_event_changes_nothing : (y : Machine) (e : Event) (r : Refusal) → (event y e).out ≡ Err r → (event y e).machine ≡ y
unfolding event
refused_event_changes_nothing y (starts k call tag) r h = refused_start_changes_nothing y k r call tag h
refused_event_changes_nothing y (steps k) r h = refused_step_changes_nothing y k r h

-- ---- list and opening

-- a refused list leaves the lent words as they were; it never writes the state or the pools
pub refused_list_changes_nothing : (y : Machine) (w : List ℕ) (r : Refusal) → (list y w).says ≡ Err r → (list y w).words ≡ w
unfolding list
refused_list_changes_nothing y w r =
    choose Same (not (sound y) || ltb 64 (length (listed y))) _ _ (λ p e. refl) (λ p.
    choose Same (not (leb 64 (length w))) _ _ (λ q e. refl) (λ q e. absurd (let z : ◌≡◌ {A = ℕ} 0 1 = cc in omega arith)))
  where
    Same : Written → Type 0
    Same x = x.says ≡ Err r → x.words ≡ w

-- a refused opening leaves both slices as they were, and gives a state of zeros
pub refused_opening_changes_nothing : (g : Config) (ns bs : List ℕ) → ¬ ((opening g ns bs).refusal ≡ 0)
    → (opening g ns bs).machine ≡ machine_of (state_of zero_config 0 0) ns bs
unfolding opening not_opened
refused_opening_changes_nothing g ns bs =
    choose Same (not (within 1 8 g.tasks)) _ _ (λ p e. refl) (λ p.
    choose Same (not (pool_fits 34 64 (length ns))) _ _ (λ q e. refl) (λ q.
    choose Same (not (pool_fits 66 1024 (length bs))) _ _ (λ s e. refl) (λ s.
    choose Same (not (version_known g)) _ _ (λ v e. refl) (λ v e. absurd (e refl)))))
  where
    Same : Opened → Type 0
    Same o = ¬ (o.refusal ≡ 0) → o.machine ≡ machine_of (state_of zero_config 0 0) ns bs
