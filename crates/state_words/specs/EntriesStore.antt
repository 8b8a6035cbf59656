-- What the entries leave is a state as the code has it: eight tasks, own steps of at most 65,535. So its words are such that a state has, and a
-- caller's words stay so from an opening on. Assumes nothing.
use Rattle.std.specs.Prelude.{ℕ, zero, suc, ◌%◌, ◌≡◌, refl, Bool, true, not, List, [], ◌∷◌, map, ltb, length, get_or, set, replicate}
use Rattle.std.proofs.Common.{◌∙◌, mod-lt, arith, le-leb, length-set}
use Rattle.spec.specs.declared.Task.{Task}
use Rattle.spec.specs.declared.Config.{Config}
use Rattle.spec.specs.declared.Call.{Call}
use Rattle.spec.specs.declared.Call.TheVariants.{Insert, Remove, Contains, Grow, Shrink}
use Rattle.spec.specs.Machine.{Machine, idle, fresh_task, zero_config, state_of, task_of, state_task, with_state, with_task, set_task}
use Rattle.spec.specs.Sound.{within, version_known, task_count, sound}
use Rattle.spec.specs.Entries.{Opened, opening, not_opened, fresh_machine, pool_fits}
use Rattle.spec.specs.Entries.{Reply, refuse, started, withdrawn, start}
use Rattle.laws.specs.Tests.{choose}
use Rattle.state_words.specs.StateWords.{own_fits}
use Rattle.state_words.specs.RoundTrip.{Stored}

-- ---- lists of which every element passes a test, as what is past the end does

module _ {A : Type 0} (test : A → Bool) (d : A) (past : test d ≡ true) where
  abbrev pub Passes : List A → Type 0
  Passes xs = (k : ℕ) → test (get_or xs k d) ≡ true

  pub passes_set : (xs : List A) (k : ℕ) (x : A) → test x ≡ true → Passes xs → Passes (set xs k x)
  passes_set [] k x e h j = h j
  passes_set (y ∷ ys) zero x e h zero = e
  passes_set (y ∷ ys) zero x e h (suc j) = h (suc j)
  passes_set (y ∷ ys) (suc k) x e h zero = h zero
  passes_set (y ∷ ys) (suc k) x e h (suc j) = passes_set ys k x e (λ i. h (suc i)) j

  pub passes_map : (f : ℕ → A) → ((i : ℕ) → test (f i) ≡ true) → (ks : List ℕ) → Passes (map f ks)
  passes_map f h [] j = past
  passes_map f h (k ∷ ks) zero = h k
  passes_map f h (k ∷ ks) (suc j) = passes_map f h ks j

  pub passes_copies : (n : ℕ) → Passes (replicate n d)
  passes_copies zero j = past
  passes_copies (suc n) zero = past
  passes_copies (suc n) (suc j) = passes_copies n j

-- ---- tasks

abbrev pub own_test : Task → Bool
own_test c = own_fits c.own

pub idle_own : own_test idle ≡ true
unfolding own_fits idle
idle_own = refl

pub wraps : (n : ℕ) → own_fits (n % 65536) ≡ true
unfolding own_fits
wraps n = let below = mod-lt n {m = 65536} (omega arith) in le-leb (n % 65536) 65535 (omega arith)

pub opened_stored : (g : Config) (h b : ℕ) → Stored (state_of g h b)
unfolding state_of
opened_stored g h b = record { eight = refl; own_steps = passes_copies own_test idle idle_own 8 }

pub opening_stored : (g : Config) (ns bs : List ℕ) → Stored (opening g ns bs).machine.state
unfolding opening not_opened fresh_machine
opening_stored g ns bs =
    choose Left (not (within 1 8 g.tasks)) _ _ (λ p. opened_stored zero_config 0 0) (λ p.
    choose Left (not (pool_fits 34 64 (length ns))) _ _ (λ q. opened_stored zero_config 0 0) (λ q.
    choose Left (not (pool_fits 66 1024 (length bs))) _ _ (λ s. opened_stored zero_config 0 0) (λ s.
    choose Left (not (version_known g)) _ _ (λ v. opened_stored zero_config 0 0) (λ v. opened_stored g _ _))))
  where
    Left : Opened → Type 0
    Left o = Stored o.machine.state

pub put_stored : (y : Machine) (k : ℕ) (c : Task) → own_fits c.own ≡ true → Stored y.state → Stored (set_task k c y).state
unfolding set_task with_task with_state state_task
put_stored y k c e h =
    record {
      eight = length-set y.state.task k c ∙ h.eight;
      own_steps = passes_set own_test idle idle_own y.state.task k c e h.own_steps;
    }

started_own : (call : Call) (tag : ℕ) → own_fits (started call tag).own ≡ true
unfolding started fresh_task own_fits
started_own Insert tag = refl
started_own Remove tag = refl
started_own Contains tag = refl
started_own Grow tag = refl
started_own Shrink tag = refl

module _ (y : Machine) (k : ℕ) (h : Stored y.state) where
  abbrev pub Left : Reply → Type 0
  Left r = Stored r.machine.state

  pub start_stored : (call : Call) (tag : ℕ) → Stored (start y k call tag).machine.state
  unfolding start refuse
  start_stored call tag =
      choose Left (not (sound y)) _ _ (λ p. h) (λ p.
      choose Left (not (ltb k (task_count y))) _ _ (λ q. h) (λ q.
      choose Left (task_of y k).running _ _ (λ s. h) (λ s.
      choose Left (withdrawn y.state.config call tag) _ _ (λ w. h) (λ w. put_stored y k (started call tag) (started_own call tag) h))))
