-- What rests on statements of specs/EntriesStore.antt that a must-fail edit makes false: theorems moved from there as they stood. Assumes nothing.
use Rattle.std.specs.Prelude.{ℕ, ◌+◌, ◌*◌, min, ◌≡◌, refl, true, not, List, ltb, length, get_or}
use Rattle.std.proofs.Common.{sym, ap, subst, ◌∙◌, le-leb}
use Rattle.std.proofs.Math.Nat.{min-le_right}
use Rattle.spec.specs.declared.Task.{Task}
use Rattle.spec.specs.declared.State.{State}
use Rattle.spec.specs.Lists.{range}
use Rattle.spec.specs.Machine.{Machine, idle, with_own, task_of}
use Rattle.spec.specs.Words.{apply}
use Rattle.spec.specs.Sound.{task_count, sound}
use Rattle.spec.specs.Lines.{Next, on, ends, Effect, effect}
use Rattle.spec.specs.StepRefusals.{unsound_step, all_held}
use Rattle.spec.specs.Entries.{refuse, finish, accept, step_running, step}
use Rattle.laws.specs.Tests.{choose}
use Rattle.laws.specs.AfterWrites.{Kept, apply_kept}
use Rattle.state_words.specs.StateWords.{task_at, tasks_of_words, state_of_words, own_fits}
use Rattle.state_words.specs.RoundTrip.{Stored}
use Rattle.state_words.specs.EntriesStore.{Left, idle_own, own_test, passes_map, put_stored, wraps}

abbrev OwnFit : List Task → Type 0
OwnFit ts = (k : ℕ) → own_test (get_or ts k idle) ≡ true

-- ---- states

same_tasks : {s t : State} → t.task ≡ s.task → Stored s → Stored t
same_tasks e h =
    record {
      eight = ap (λ (ts : List Task). length ts) e ∙ h.eight;
      own_steps = subst OwnFit (sym e) h.own_steps;
    }

-- the state that any words are
pub words_stored : (w : List ℕ) → Stored (state_of_words w)
unfolding state_of_words tasks_of_words task_at range
words_stored w =
    record { eight = refl; own_steps = passes_map own_test idle idle_own (λ k. task_at w (9 + 13 * k)) (λ k. wraps (get_or w (9 + 13 * k + 5) 0)) (range 0 8) }

finish_stored : (y : Machine) (k own : ℕ) (n : Next) → own_fits own ≡ true → Stored y.state → Stored (finish y k own n).machine.state
unfolding finish with_own
finish_stored y k own (on c) e h = put_stored y k (with_own own c) e h
finish_stored y k own (ends a l) e h = put_stored y k idle idle_own h

accept_stored : (y : Machine) (k own : ℕ) (e : Effect) → Stored y.state → Stored (accept y k own e).machine.state
unfolding accept own_fits
accept_stored y k own e h =
    let same = ap (λ (p : Kept). p.task) (apply_kept e.write y) in
    finish_stored (apply e.write y) k (min (own + 1) 65535) e.next (le-leb _ 65535 (min-le_right (own + 1) 65535)) (same_tasks same h)

module _ (y : Machine) (k : ℕ) (h : Stored y.state) where
  pub step_stored : Stored (step y k).machine.state
  unfolding step step_running refuse
  step_stored =
      choose (Left y k h) (not (sound y)) _ _ (λ p. h) (λ p.
      choose (Left y k h) (not (ltb k (task_count y))) _ _ (λ q. h) (λ q.
      choose (Left y k h) (not (task_of y k).running) _ _ (λ s. h) (λ s.
      choose (Left y k h) (unsound_step y (task_of y k)) _ _ (λ u. h) (λ u.
      choose (Left y k h) (all_held y (task_of y k)) _ _ (λ v. h) (λ v. accept_stored y k _ (effect y (task_of y k)) h)))))
