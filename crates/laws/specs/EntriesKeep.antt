-- Start and step by their outcome, and that they keep memory sound, whatever sound memory they are given. Assumes nothing.
use Rattle.std.specs.Prelude.{ℕ, ◌+◌, ◌≤◌, ◌<◌, min, ◌≡◌, refl, true, false, not, ltb, Ok}
use Rattle.std.proofs.Common.{arith, ltb-true, ltb-false}
use Rattle.std.proofs.lemmas.Bool.{not-true, not-false}
use Rattle.spec.specs.declared.Refusal.TheVariants.{NoTask, Running, Idle, NoRecord, Spoilt, Withdrawn}
use Rattle.spec.specs.declared.Call.{Call}
use Rattle.spec.specs.declared.Call.TheVariants.{Insert, Remove, Contains, Grow, Shrink}
use Rattle.spec.specs.declared.Progress.TheVariants.{At}
use Rattle.spec.specs.Lists.{member}
use Rattle.spec.specs.Machine.{Machine, idle, fresh_task, with_own, set_task, task_of}
use Rattle.spec.specs.Words.{apply}
use Rattle.spec.specs.Sound.{fill_lines, lines_of, resizes, sound}
use Rattle.spec.specs.Lines.{Next, on, ends, Effect, effect}
use Rattle.spec.specs.StepRefusals.{unsound_step, all_held}
use Rattle.spec.specs.Entries.{refuse, started, withdrawn, start, Reply, finish, accept, step_running, step}
use Rattle.laws.specs.Tests.{choose, tf}
use Rattle.laws.specs.SoundFacts.{RunFacts, TaskFacts, runs, is_idle, SoundFacts}
use Rattle.laws.specs.Soundness.{sound_facts, facts_sound}
use Rattle.laws.specs.EffectSound.{NextSound, EffectSound}
use Rattle.laws.specs.TaskKeeps.{no_link, task_keeps, run_own}
use Rattle.laws.specs.WritesKeep.{write_keeps}

-- ---- the entries

pub finish_keeps : (y : Machine) → SoundFacts y → (k own : ℕ) (n : Next) → NextSound y k n → SoundFacts (finish y k own n).machine
unfolding finish with_own
finish_keeps y f k own (on c) g = task_keeps y k (with_own own c) f (runs g.0 (run_own y k c g.1 own))
finish_keeps y f k own (ends a l) g = task_keeps y k idle f (is_idle refl)

pub accept_keeps : (y : Machine) → SoundFacts y → (k own : ℕ) (e : Effect) → EffectSound y k e → SoundFacts (accept y k own e).machine
unfolding accept
accept_keeps y f k own e g = finish_keeps (apply e.write y) (write_keeps y f e.write g.write_sound).sound k (min (own + 1) 65535) e.next g.next

-- a step of a sound machine, by its outcome
pub data StepOutcome (y : Machine) (k : ℕ) : Reply → Type 0 where
  step_no_task : y.state.config.tasks ≤ k → StepOutcome y k (refuse NoTask y)
  step_idle : k < y.state.config.tasks → (task_of y k).running ≡ false → StepOutcome y k (refuse Idle y)
  step_unsound : k < y.state.config.tasks → (task_of y k).running ≡ true → unsound_step y (task_of y k) ≡ true → StepOutcome y k (refuse Spoilt y)
  step_all_held : k < y.state.config.tasks → (task_of y k).running ≡ true → unsound_step y (task_of y k) ≡ false → all_held y (task_of y k) ≡ true
      → StepOutcome y k (refuse NoRecord y)
  step_accepted : k < y.state.config.tasks → (task_of y k).running ≡ true → unsound_step y (task_of y k) ≡ false → all_held y (task_of y k) ≡ false
      → StepOutcome y k (accept y k (task_of y k).own (effect y (task_of y k)))

pub step_outcome : (y : Machine) (k : ℕ) → sound y ≡ true → StepOutcome y k (step y k)
unfolding step step_running
step_outcome y k e =
    choose (StepOutcome y k) (not (sound y)) _ _ (λ q. absurd (tf e (not-true (sound y) q)))
    (λ q. choose (StepOutcome y k) (not (ltb k y.state.config.tasks)) _ _ (λ a. step_no_task (ltb-false k y.state.config.tasks (not-true _ a)))
    (λ a. let lt = ltb-true k y.state.config.tasks (not-false _ a) in
    choose (StepOutcome y k) (not (task_of y k).running) _ _ (λ b. step_idle lt (not-true _ b))
    (λ b. let going = not-false (task_of y k).running b in
    choose (StepOutcome y k) (unsound_step y (task_of y k)) _ _ (λ c. step_unsound lt going c)
    (λ c. choose (StepOutcome y k) (all_held y (task_of y k)) _ _ (λ d. step_all_held lt going c d) (λ d. step_accepted lt going c d)))))

-- a start of a sound machine, by its outcome
pub data StartOutcome (y : Machine) (k : ℕ) (call : Call) (tag : ℕ) : Reply → Type 0 where
  start_no_task : y.state.config.tasks ≤ k → StartOutcome y k call tag (refuse NoTask y)
  start_running : k < y.state.config.tasks → (task_of y k).running ≡ true → StartOutcome y k call tag (refuse Running y)
  start_withdrawn : k < y.state.config.tasks → (task_of y k).running ≡ false → withdrawn y.state.config call tag ≡ true
      → StartOutcome y k call tag (refuse Withdrawn y)
  start_accepted : k < y.state.config.tasks → (task_of y k).running ≡ false → withdrawn y.state.config call tag ≡ false
      → StartOutcome y k call tag (record { out = Ok (At (started call tag).line); machine = set_task k (started call tag) y })

pub start_outcome : (y : Machine) (k : ℕ) (call : Call) (tag : ℕ) → sound y ≡ true → StartOutcome y k call tag (start y k call tag)
unfolding start
start_outcome y k call tag e =
    choose (StartOutcome y k call tag) (not (sound y)) _ _ (λ q. absurd (tf e (not-true (sound y) q)))
    (λ q. choose (StartOutcome y k call tag) (not (ltb k y.state.config.tasks)) _ _
    (λ a. start_no_task (ltb-false k y.state.config.tasks (not-true _ a)))
    (λ a. let lt = ltb-true k y.state.config.tasks (not-false _ a) in
    choose (StartOutcome y k call tag) (task_of y k).running _ _ (λ b. start_running lt b)
    (λ b. choose (StartOutcome y k call tag) (withdrawn y.state.config call tag) _ _ (λ c. start_withdrawn lt b c) (λ c. start_accepted lt b c))))

fresh_facts : (y : Machine) (k call tag line : ℕ) → k < y.state.config.tasks → member line (lines_of call) ≡ true → (resizes call ≡ true → tag ≡ 0)
    → RunFacts y k (fresh_task call tag line)
unfolding fresh_task
fresh_facts y k call tag line lt h g = record {
  below_T = lt;
  line = h;
  i = omega arith;
  tag = g;
  t = no_link y;
  s = no_link y;
  new_node = no_link y;
  b = omega arith;
  m = omega arith;
  n = omega arith;
  new_bucket = omega arith;
}

started_facts : (y : Machine) (k : ℕ) (call : Call) (tag : ℕ) → k < y.state.config.tasks → TaskFacts y k (started call tag)
unfolding started fresh_task lines_of fill_lines member
started_facts y k Insert tag lt = runs refl (fresh_facts y k 1 tag 32 lt refl (λ e. absurd (tf e refl)))
started_facts y k Remove tag lt = runs refl (fresh_facts y k 2 tag 32 lt refl (λ e. absurd (tf e refl)))
started_facts y k Contains tag lt = runs refl (fresh_facts y k 3 tag 12 lt refl (λ e. absurd (tf e refl)))
started_facts y k Grow tag lt = runs refl (fresh_facts y k 4 0 20 lt refl (λ e. refl))
started_facts y k Shrink tag lt = runs refl (fresh_facts y k 5 0 20 lt refl (λ e. refl))

pub start_facts : (y : Machine) → SoundFacts y → (k : ℕ) (call : Call) (tag : ℕ) {m : Reply} → StartOutcome y k call tag m → SoundFacts m.machine
unfolding refuse
start_facts y f k call tag (start_no_task a) = f
start_facts y f k call tag (start_running a b) = f
start_facts y f k call tag (start_withdrawn a b c) = f
start_facts y f k call tag (start_accepted a b c) = task_keeps y k (started call tag) f (started_facts y k call tag a)

pub start_keeps : (y : Machine) (k : ℕ) (call : Call) (tag : ℕ) → sound y ≡ true → sound (start y k call tag).machine ≡ true
start_keeps y k call tag e = facts_sound (start y k call tag).machine (start_facts y (sound_facts y e) k call tag (start_outcome y k call tag e))
