-- "A move refused with 7, or with a step's 8, only uses up its turn": of sound memory with three tasks, a step that a side may make
-- is refused with 7 or 8 alone, and then changes nothing; the office's starts are never refused. Assumes nothing.
use Rattle.std.specs.Prelude.{ℕ, ◌≤◌, ◌<◌, ◌≡◌, ◌⊎◌, true, Err}
use Rattle.std.proofs.Math.Path.{ap}
use Rattle.std.proofs.Math.Logic.{inl, inr}
use Rattle.std.proofs.Math.Bool.{false}
use Rattle.std.proofs.Common.{arith}
use Rattle.spec.specs.declared.Refusal.{Refusal}
use Rattle.spec.specs.declared.Refusal.TheVariants.{NoRecord, Spoilt}
use Rattle.spec.specs.declared.Call.{Call}
use Rattle.spec.specs.declared.Call.TheVariants.{Grow, Shrink}
use Rattle.spec.specs.Machine.{Machine, task_of}
use Rattle.spec.specs.Sound.{task_count, sound}
use Rattle.spec.specs.Lines.{effect}
use Rattle.spec.specs.Entries.{Reply, refuse, withdrawn, start, step}
use Rattle.laws.specs.Tests.{tf}
use Rattle.laws.specs.EntriesKeep.{StepOutcome, step_no_task, step_idle, step_unsound, step_all_held, step_accepted, step_outcome}
use Rattle.laws.specs.EntriesKeep.{StartOutcome, start_no_task, start_running, start_withdrawn, start_accepted, start_outcome}
use Rattle.corollaries.specs.Unchanged.{at_refused, accept_refused, refused_step_changes_nothing}

module _ (y : Machine) (e : sound y ≡ true) (three : 3 ≤ task_count y) where
  pub refused_step : (k : ℕ) (r : Refusal) → k < 3 → (task_of y k).running ≡ true → (step y k).out ≡ Err r
      → ((r ≡ NoRecord) ⊎ (r ≡ Spoilt)) × ((step y k).machine ≡ y)
  unfolding refuse
  refused_step k r low runs o = (go (step_outcome y k e) o, refused_step_changes_nothing y k r o)
    where
      go : {m : Reply} → StepOutcome y k m → m.out ≡ Err r → (r ≡ NoRecord) ⊎ (r ≡ Spoilt)
      go (step_no_task a) q = absurd (omega arith)
      go (step_idle a b) q = absurd (tf runs b)
      go (step_unsound a b c) q = inr (cc)
      go (step_all_held a b c d) q = inl (cc)
      go (step_accepted a b c d) q = absurd (accept_refused y k (task_of y k).own (effect y (task_of y k)) q)

  pub start_not_refused : (call : Call) → (call ≡ Grow) ⊎ (call ≡ Shrink) → (r : Refusal) → (task_of y 2).running ≡ false
      → ¬ ((start y 2 call 0).out ≡ Err r)
  unfolding refuse withdrawn
  start_not_refused call resize r idle o = go (start_outcome y 2 call 0 e) o
    where
      keeps_no_tag : (call ≡ Grow) ⊎ (call ≡ Shrink) → withdrawn y.state.config call 0 ≡ false
      keeps_no_tag (inl p) = ap (λ (f : Call). withdrawn y.state.config f 0) p
      keeps_no_tag (inr p) = ap (λ (f : Call). withdrawn y.state.config f 0) p

      go : {m : Reply} → StartOutcome y 2 call 0 m → m.out ≡ Err r → ⊥
      go (start_no_task a) q = omega arith
      go (start_running a b) q = tf b idle
      go (start_withdrawn a b w) q = tf w (keeps_no_tag resize)
      go (start_accepted a b w) q = at_refused q
