-- Laws of start and step, a case each.
-- Assumes nothing.
use Rattle.std.specs.Prelude.{if◌then◌else◌, None, Some, Ok}
use mathlib.Core.Path.{◌≡◌, sym, ap, ◌∙◌}
use mathlib.Core.Bool.{Bool, true, false, not}
use Prim.Native.Nat.{ℕ, ◌<◌, ◌≤◌}
use native.Mathlib.Omega.{arith}
use borrow.Author.Tests.{le-ltb, lt-ltb}
use Rattle.laws.specs.SoundFacts.{RunFacts}
use Rattle.laws.specs.Soundness.{sound_facts, run_of}
use Rattle.laws.specs.Tests.{if_true, if_false}
use Rattle.spec.specs.declared.Refusal.TheVariants.{NoTask, Running, Idle, Spoilt, Withdrawn}
use Rattle.spec.specs.Machine.{Machine, task_of, set_task}
use Rattle.spec.specs.declared.Call.{Call}
use Rattle.spec.specs.declared.Task.{Task}
use Rattle.spec.specs.Sound.{sound}
use Rattle.spec.specs.Entries.{refuse, withdrawn, start, started, step, step_running}
use Rattle.spec.specs.declared.Progress.TheVariants.{At}
use Rattle.soundness.specs.Told.{checked_of}
use Rattle.soundness.proofs.Laws.{told_none, told_some}

module _ (y : Machine) (k : ℕ) where
  pub step_spoilt : sound y ≡ false → step y k ≡ refuse Spoilt y
  unfolding step
  step_spoilt e = rw e

  module _ (s : sound y ≡ true) where
    pub step_none : y.state.config.tasks ≤ k → step y k ≡ refuse NoTask y
    unfolding step
    step_none h = rw (s, le-ltb _ _ h)

    module _ (h : k < y.state.config.tasks) where
      pub step_idle : (task_of y k).running ≡ false → step y k ≡ refuse Idle y
      unfolding step
      step_idle e = rw (s, lt-ltb _ _ h) (ap (λ (b : Bool). if not b then refuse Idle y else step_running y k (task_of y k)) e)

      pub step_goes : (task_of y k).running ≡ true → step y k ≡ step_running y k (task_of y k)
      unfolding step
      step_goes e = rw (s, lt-ltb _ _ h) (ap (λ (b : Bool). if not b then refuse Idle y else step_running y k (task_of y k)) e)

  module _ (call : Call) (tag : ℕ) where
    pub start_spoilt : sound y ≡ false → start y k call tag ≡ refuse Spoilt y
    unfolding start
    start_spoilt e = rw e

    module _ (s : sound y ≡ true) where
      pub start_none : y.state.config.tasks ≤ k → start y k call tag ≡ refuse NoTask y
      unfolding start
      start_none h = rw (s, le-ltb _ _ h)

      module _ (h : k < y.state.config.tasks) where
        pub start_busy : (task_of y k).running ≡ true → start y k call tag ≡ refuse Running y
        unfolding start
        start_busy e = rw (s, lt-ltb _ _ h) (if_true (task_of y k).running (refuse Running y) _ e)

        module _ (rests : (task_of y k).running ≡ false) where
          pub start_withdrawn : withdrawn y.state.config call tag ≡ true → start y k call tag ≡ refuse Withdrawn y
          unfolding start
          start_withdrawn e = rw (s, lt-ltb _ _ h, e) (if_false (task_of y k).running (refuse Running y) _ rests)

          pub start_goes : withdrawn y.state.config call tag ≡ false → start y k call tag
              ≡ record { out = Ok (At (started call tag).line); machine = set_task k (started call tag) y }
          unfolding start
          start_goes e = rw (s, lt-ltb _ _ h, e) (if_false (task_of y k).running (refuse Running y) _ rests)

-- ---- what a check gives

module _ (y : Machine) (k : ℕ) where
  pub spoils : None ≡ checked_of y k → sound y ≡ false
  spoils e = told_none (sound y) (task_of y k) (sym e)

  module _ (c : Task) (e : Some c ≡ checked_of y k) where
    pub tells : sound y ≡ true
    tells = (told_some (sound y) (task_of y k) (sym e)).0

    pub reads : c ≡ task_of y k
    reads = (told_some (sound y) (task_of y k) (sym e)).1

    pub runs_as : {b : Bool} → c.running ≡ b → (task_of y k).running ≡ b
    runs_as r = ap (λ (x : Task). x.running) (sym reads) ∙ r

    pub facts_as : c.running ≡ true → RunFacts y k c
    facts_as r = rw reads (run_of y (sound_facts y tells) k (runs_as r))

    pub below_8 : k < y.state.config.tasks → k < 8
    below_8 h = let most = (sound_facts y tells).config.T_high in omega arith
