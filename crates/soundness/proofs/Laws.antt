-- Laws of the loop over the tasks.
-- Assumes nothing.
use Rattle.std.specs.Prelude.{Option, None, Some, is_some}
use mathlib.Core.Path.{◌≡◌, refl, sym, ap, ◌∙◌}
use mathlib.Core.List.{List}
use mathlib.Core.Bool.{Bool, true, false, ◌&&◌}
use Prim.Native.Nat.{ℕ, suc, ◌+◌, ◌<◌, ◌≤◌}
use native.Mathlib.Numerals.{add-one}
use lib.ListN.{length, get_or, drop, drop_of_length-le, get_or-eq_default}
use lib.Seq.{drop-cons}
use Rattle.spec.specs.Machine.{Machine, idle, task_of}
use Rattle.spec.specs.Sound.{sound_task, sound_tasks}
use Rattle.sound_records.proofs.Joined.{and_assoc}
use Rattle.soundness.specs.Told.{told}
use Rattle.spec.specs.declared.Task.{Task}

module _ (y : Machine) (ts : List Task) (k : ℕ) (d : Task) (h : k < length ts) where
  pub tasks_joined : (a : Bool) → ((a && sound_task y k (get_or ts k d)) && sound_tasks y (k + 1) (drop (k + 1) ts)) ≡ (a && sound_tasks y k (drop k ts))
  unfolding sound_tasks
  tasks_joined a = rw (add-one, drop-cons ts k d h) (and_assoc a (sound_task y k (get_or ts k d)) (sound_tasks y (suc k) (drop (suc k) ts)))

  pub tasks_on : sound_task y k (get_or ts k d) ≡ true → sound_tasks y k (drop k ts) ≡ sound_tasks y (k + 1) (drop (k + 1) ts)
  unfolding sound_tasks
  tasks_on e = rw (add-one, drop-cons ts k d h, e)

  pub tasks_no : sound_task y k (get_or ts k d) ≡ false → sound_tasks y k (drop k ts) ≡ false
  unfolding sound_tasks
  tasks_no e = rw (drop-cons ts k d h, e)

pub tasks_end : (y : Machine) (ts : List Task) (k : ℕ) → length ts ≤ k → sound_tasks y k (drop k ts) ≡ true
unfolding sound_tasks
tasks_end y ts k h = rw (drop_of_length-le ts h)

-- what is told of all by those joined and those to come
pub joined_none : (a r : Bool) {t : Bool} → (a && r) ≡ t → a ≡ false → t ≡ false
joined_none a r e f = sym e ∙ ap (λ (b : Bool). b && r) f

pub joined_all : (a r : Bool) {t : Bool} → (a && r) ≡ t → a ≡ true → r ≡ true → t ≡ true
joined_all a r e f g = sym e ∙ ap (λ (b : Bool). b && r) f ∙ g

-- ---- the record that goes with a check

pub told_sound : {b : Bool} {c : Task} → b ≡ true → told b c ≡ Some c
unfolding told
told_sound e = rw e

pub told_unsound : {b : Bool} (c : Task) → b ≡ false → told b c ≡ None
unfolding told
told_unsound c e = rw e

some_none : {c : Task} → Some c ≡ None → ⊥
some_none e = cc

some_same : {c d : Task} → Some c ≡ Some d → c ≡ d
some_same e = cc

-- what it says of memory, and of the record
pub told_none : (b : Bool) (c : Task) → told b c ≡ None → b ≡ false
unfolding told
told_none false c e = refl
told_none true c e = absurd (some_none e)

pub told_some : (b : Bool) (c : Task) {x : Task} → told b c ≡ Some x → (b ≡ true) × (x ≡ c)
unfolding told
told_some false c e = absurd (some_none (sym e))
told_some true c e = (refl, sym (some_same e))

pub told_is_some : (b : Bool) (c : Task) {d : Option Task} → d ≡ told b c → is_some d ≡ b
unfolding told
told_is_some false c e = rw e refl
told_is_some true c e = rw e refl

pub no_such_task : (y : Machine) (j : ℕ) → length y.state.task ≡ 8 → 8 ≤ j → task_of y j ≡ idle
unfolding task_of
no_such_task y j l h = get_or-eq_default y.state.task idle (rw l h)
