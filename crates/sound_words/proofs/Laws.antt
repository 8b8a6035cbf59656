-- The words of a task and its record: in which words which task stands, and that words are zeros exactly if the task is idle. Assumes nothing.
use Rattle.std.specs.Prelude.{if◌then◌else◌}
use Prim.Native.Nat.{ℕ, zero, suc, ◌+◌, ◌*◌, ◌≤◌, ◌<◌}
use mathlib.Core.Path.{◌≡◌, refl, sym, ap, ◌∙◌}
use mathlib.Core.Logic.{◌⊎◌, inl, inr}
use mathlib.Core.Bool.{Bool, true, false}
use mathlib.Core.List.{List}
use native.Mathlib.Omega.{arith}
use borrow.Author.Tests.{eqb-true, ltb-false, not-false}
use lib.Dec.{eqb, ltb}
use lib.ListN.{length, get_or, drop}
use lib.Seq.{get_or-drop}
use Rattle.spec.specs.declared.Task.{Task}
use Rattle.spec.specs.Lists.{every, range}
use Rattle.spec.specs.Machine.{Machine, machine_of, idle, task_of}
use Rattle.spec.specs.Sound.{task_count, zeros, sound_task, sound}
use Rattle.laws.specs.Tests.{bool?, same_test, and_left, and_right, and3, if_true, if_false}
use Rattle.laws.specs.Lists.{every_at, zeros_at, all_zeros}
use Rattle.laws.specs.SoundFacts.{TaskFacts, runs, is_idle}
use Rattle.laws.specs.SoundTasks.{task_facts, facts_task}
use Rattle.laws.specs.Soundness.{sound_facts}
use Rattle.state_words.specs.StateWords.{truth, task_at, tasks_of_words, state_of_words, bit_fits, own_fits, task_fits, state_fits}
use Rattle.state_words.specs.RoundTrip.{own_again}

-- ---- where the tasks stand

pub eight_tasks : (w : List ℕ) → length (tasks_of_words w) ≡ 8
unfolding tasks_of_words range
eight_tasks w = refl

pub task_in : (w : List ℕ) (d : Task) (k : ℕ) → k < 8 → get_or (tasks_of_words w) k d ≡ task_at w (9 + 13 * k)
unfolding tasks_of_words range
task_in w d zero h = refl
task_in w d (suc zero) h = refl
task_in w d (suc (suc zero)) h = refl
task_in w d (suc (suc (suc zero))) h = refl
task_in w d (suc (suc (suc (suc zero)))) h = refl
task_in w d (suc (suc (suc (suc (suc zero))))) h = refl
task_in w d (suc (suc (suc (suc (suc (suc zero)))))) h = refl
task_in w d (suc (suc (suc (suc (suc (suc (suc zero))))))) h = refl
task_in w d (suc (suc (suc (suc (suc (suc (suc (suc k)))))))) h = absurd (omega arith)

number_in : (k : ℕ) → k < 8 → get_or (range 0 8) k 0 ≡ k
unfolding range
number_in zero h = refl
number_in (suc zero) h = refl
number_in (suc (suc zero)) h = refl
number_in (suc (suc (suc zero))) h = refl
number_in (suc (suc (suc (suc zero)))) h = refl
number_in (suc (suc (suc (suc (suc zero))))) h = refl
number_in (suc (suc (suc (suc (suc (suc zero)))))) h = refl
number_in (suc (suc (suc (suc (suc (suc (suc zero))))))) h = refl
number_in (suc (suc (suc (suc (suc (suc (suc (suc k)))))))) h = absurd (omega arith)

first_fits : (f : ℕ → Bool) → every f (range 0 8) ≡ true → f 0 ≡ true
unfolding every range
first_fits f all = and_left (f 0) (every f (range 1 7)) all

pub fits_at : (w : List ℕ) → state_fits w ≡ true → (k : ℕ) → k < 8 → task_fits w (9 + 13 * k) ≡ true
unfolding state_fits
fits_at w e k h =
    let f : ℕ → Bool = λ j. task_fits w (9 + 13 * j) in
    let all = (and3 (eqb (length w) 113) (bit_fits (get_or w 2 0)) (every f (range 0 8)) e).2 in
    ap f (sym (number_in k h)) ∙ every_at f (first_fits f all) (range 0 8) all k

-- ---- zeros and an idle task

no_truth : (n : ℕ) → truth n ≡ false → n ≡ 0
no_truth n e = eqb-true n 0 (not-false (eqb n 0) e)

module _ (w : List ℕ) (a : ℕ) where
  abbrev word : ℕ → ℕ
  word i = get_or w (a + i) 0

  pub zeros_idle : zeros 13 (drop a w) ≡ true → task_at w a ≡ idle
  unfolding task_at idle
  zeros_idle e =
      let z : (i : ℕ) → i < 13 → word i ≡ 0 = λ i h. sym (get_or-drop a w i 0) ∙ zeros_at 13 (drop a w) e i h in
      let first : get_or w a 0 ≡ 0 = ap (λ (n : ℕ). get_or w n 0) (let q : a ≡ a + 0 = omega arith in q) ∙ z 0 (omega arith) in
      rw (first, z 1 (omega arith), z 2 (omega arith), z 3 (omega arith), z 4 (omega arith), z 5 (omega arith), z 6 (omega arith))
      (rw (z 7 (omega arith), z 8 (omega arith), z 9 (omega arith), z 10 (omega arith), z 11 (omega arith), z 12 (omega arith)) refl)

  module _ (fits : task_fits w a ≡ true) (e : task_at w a ≡ idle) where
    field : (f : Task → ℕ) → f (task_at w a) ≡ f idle
    field f = ap f e

    each_zero : (i : ℕ) → i < 13 → word i ≡ 0
    unfolding task_at idle task_fits
    each_zero zero h = ap (λ (n : ℕ). get_or w n 0) (let q : a + 0 ≡ a = omega arith in q) ∙ no_truth (get_or w a 0) (ap (λ (c : Task). c.running) e)
    each_zero (suc zero) h = field (λ c. c.call)
    each_zero (suc (suc zero)) h = field (λ c. c.tag)
    each_zero (suc (suc (suc zero))) h = field (λ c. c.line)
    each_zero (suc (suc (suc (suc zero)))) h = field (λ c. c.i)
    each_zero (suc (suc (suc (suc (suc zero))))) h =
        sym (own_again (word 5) (and_right (bit_fits (get_or w a 0)) (own_fits (word 5)) fits)) ∙ field (λ c. c.own)
    each_zero (suc (suc (suc (suc (suc (suc zero)))))) h = field (λ c. c.t)
    each_zero (suc (suc (suc (suc (suc (suc (suc zero))))))) h = field (λ c. c.s)
    each_zero (suc (suc (suc (suc (suc (suc (suc (suc zero)))))))) h = field (λ c. c.b)
    each_zero (suc (suc (suc (suc (suc (suc (suc (suc (suc zero))))))))) h = field (λ c. c.m)
    each_zero (suc (suc (suc (suc (suc (suc (suc (suc (suc (suc zero)))))))))) h = field (λ c. c.n)
    each_zero (suc (suc (suc (suc (suc (suc (suc (suc (suc (suc (suc zero))))))))))) h = field (λ c. c.new_node)
    each_zero (suc (suc (suc (suc (suc (suc (suc (suc (suc (suc (suc (suc zero)))))))))))) h = field (λ c. c.new_bucket)
    each_zero (suc (suc (suc (suc (suc (suc (suc (suc (suc (suc (suc (suc (suc i))))))))))))) h = absurd (omega arith)

    idle_zeros : zeros 13 (drop a w) ≡ true
    idle_zeros = all_zeros 13 (drop a w) (λ i h. get_or-drop a w i 0 ∙ each_zero i h)

-- a sound task from T on is idle
idle_from_T : (y : Machine) (k : ℕ) (c : Task) → task_count y ≤ k → TaskFacts y k c → c ≡ idle
idle_from_T y k c h (runs q g) = let b = g.below_T in absurd (omega arith)
idle_from_T y k c h (is_idle q) = q

pub unused_zeros : (w : List ℕ) (a : ℕ) → task_fits w a ≡ true → (y : Machine) (k : ℕ) → task_count y ≤ k → zeros 13 (drop a w) ≡ sound_task y k (task_at w a)
unused_zeros w a fits y k h =
    same_test (zeros 13 (drop a w)) (sound_task y k (task_at w a))
    (λ e. facts_task y k (task_at w a) (is_idle (zeros_idle w a e)))
    (λ e. idle_zeros w a fits (idle_from_T y k (task_at w a) h (task_facts y k (task_at w a) e)))

-- ---- the tasks of a sound state

pub task_is : (w ns bs : List ℕ) (k : ℕ) → k < 8 → task_of (machine_of (state_of_words w) ns bs) k ≡ task_at w (9 + 13 * k)
unfolding task_of state_of_words
task_is w ns bs k h = task_in w idle k h

pub idle_past_T : (w ns bs : List ℕ) → sound (machine_of (state_of_words w) ns bs) ≡ true → (k : ℕ) → get_or w 0 0 ≤ k → k < 8 → task_at w (9 + 13 * k) ≡ idle
unfolding state_of_words
idle_past_T w ns bs s k h l =
    let y = machine_of (state_of_words w) ns bs in
    sym (task_is w ns bs k l) ∙ idle_from_T y k (task_of y k) h ((sound_facts y s).task k)

pub some_task : (w ns bs : List ℕ) → sound (machine_of (state_of_words w) ns bs) ≡ true → 0 < get_or w 0 0
unfolding state_of_words
some_task w ns bs s = let low = (sound_facts (machine_of (state_of_words w) ns bs) s).config.T_low in omega arith

-- a task whose words are read if it is below T
pub used : (w : List ℕ) (n : ℕ) → ((k : ℕ) → n ≤ k → k < 8 → task_at w (9 + 13 * k) ≡ idle) → (k : ℕ) → k < 8
    → (if ltb k n then task_at w (9 + 13 * k) else idle) ≡ task_at w (9 + 13 * k)
used w n h k l = go (bool? (ltb k n))
  where
    c : Task
    c = task_at w (9 + 13 * k)

    go : (ltb k n ≡ true) ⊎ (ltb k n ≡ false) → (if ltb k n then c else idle) ≡ c
    go (inl e) = if_true (ltb k n) c idle e
    go (inr e) = if_false (ltb k n) c idle e ∙ sym (h k (ltb-false k n e) l)
