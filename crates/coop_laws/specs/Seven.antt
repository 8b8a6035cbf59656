-- Refusal 7 in words, of any sound memory: line 140 is about to take a version, since the bucket still has o, and the bucket or a running
-- task names each. One of them is the o of the task that steps, which the bucket has; so there are no more versions than tasks, and one
-- version more always suffices. Assumes nothing.
use Rattle.std.specs.Prelude.{◌+◌, ◌<◌, ◌≤◌, suc, zero, ℕ, not, true, List, [], ◌∷◌, ◌≡◌, refl, eqb, leb, get_or}
use Rattle.std.proofs.Common.{◌∙◌, ap, sym}
use Rattle.std.proofs.Math.Decide.{dec_lt}
use native.Mathlib.Omega.{arith}
use borrow.Author.Tests.{eq-eqb, eqb-true, leb-true, ltb-true, not-true}
use Rattle.spec.specs.Sound.{within}
use Rattle.spec.specs.Words.{filled, number}
use Rattle.laws.specs.Links.{false_filled, filled_false}
use Rattle.laws.specs.Tests.{and_left, and_right, and3, and4, and5, if_true, tf}
use Rattle.coop_spec.specs.Held.{free_version}
use Rattle.coop_spec.specs.Lines.{still_current}
use Rattle.coop_spec.specs.Machine.{Machine, idle, task_of}
use Rattle.coop_spec.specs.Sound.{sound, sound_numbers, sound_running, sound_task, sound_tasks, version_count, zero_task}
use Rattle.coop_spec.specs.StepRefusals.{all_held}
use Rattle.coop_spec.specs.Words.{current}
use Rattle.coop_spec.specs.declared.Task.{Task}
use Rattle.coop_laws.specs.Held.{HeldVersion, by_bucket, by_task}
use Rattle.coop_laws.specs.Pigeonholes.{pigeonholes}
use Rattle.coop_laws.specs.Taken.{no_version_iff_all_held}

-- the task stands at line 140, the bucket still has its o, and every version is held
pub record AllHeld (y : Machine) (c : Task) : Type 0 where
  pub at_140 : c.line ≡ 140
  pub has_o : current y ≡ number c.o
  pub each_held : (k : ℕ) → k < version_count y → HeldVersion y k

-- a running task of a sound machine is one of its T
sound_at : (y : Machine) (j : ℕ) (cs : List Task) → sound_tasks y j cs ≡ true → (p : ℕ) → (get_or cs p idle).running ≡ true
    → j + p < y.state.tasks
unfolding sound_tasks sound_task sound_running idle
sound_at y j [] s p r = absurd (tf r refl)
sound_at y j (c ∷ cs) s zero r =
    let here = sym (if_true c.running (sound_running y j c) (zero_task c) r) ∙ and_left (sound_task y j c) (sound_tasks y (suc j) cs) s in
    let low = and_left _ _ (and_left _ _ (and_left _ _ (and_left _ _ (and_left _ _ (and_left _ _ here))))) in
    let b = ltb-true j y.state.tasks low in
    omega arith
sound_at y j (c ∷ cs) s (suc p) r =
    let further = sound_at y (suc j) cs (and_right (sound_task y j c) (sound_tasks y (suc j) cs) s) p r in omega arith

module _ (y : Machine) (s : sound y ≡ true) where
  pub running_below : (p : ℕ) → (task_of y p).running ≡ true → p < y.state.tasks
  unfolding sound task_of
  running_below p r = let b = sound_at y 0 y.state.task (and4 (sound_numbers y) _ _ _ s).3 p r in omega arith

  numbers : (1 ≤ version_count y) × (y.state.last < version_count y)
  unfolding sound sound_numbers
  numbers =
      let n = and5 (within 1 8 y.state.tasks) (within 1 1024 (version_count y)) _ _ _ (and4 (sound_numbers y) _ _ _ s).0 in
      (leb-true 1 (version_count y) (and_left (leb 1 (version_count y)) _ n.1), ltb-true y.state.last (version_count y) n.4)

  pub seven_means : (c : Task) → all_held y c ≡ true → AllHeld y c
  unfolding all_held
  seven_means c e =
      let t = and3 (eqb c.line 140) (still_current y c) (not (filled (free_version y))) e in
      record {
        at_140 = eqb-true c.line 140 t.0;
        has_o = eqb-true (current y) (number c.o) t.1;
        each_held = (no_version_iff_all_held y numbers.0 numbers.1).0
            (filled_false (free_version y) (not-true (filled (free_version y)) t.2));
      }

  pub means_seven : (c : Task) → AllHeld y c → all_held y c ≡ true
  unfolding all_held
  means_seven c h =
      rw (
        eq-eqb c.line 140 h.at_140,
        eq-eqb (current y) (number c.o) h.has_o,
        false_filled (free_version y) ((no_version_iff_all_held y numbers.0 numbers.1).1 h.each_held),
      )

  -- each version is the o of a task below T, so no two of them have one task
  pub held_by_tasks : (p : ℕ) → p < y.state.tasks → AllHeld y (task_of y p) → version_count y ≤ y.state.tasks
  held_by_tasks p below h =
      pigeonholes (λ k. holder k (dec_lt k (version_count y))) (version_count y) y.state.tasks
      (λ k b. (names k b (dec_lt k (version_count y))).0)
      (λ k j b d e. sym (names k b (dec_lt k (version_count y))).1 ∙ ap (λ (q : ℕ). number (task_of y q).o) e ∙ (names j d (dec_lt j (version_count y))).1)
    where
      by : (k : ℕ) → HeldVersion y k → ℕ
      by k (by_bucket e) = p
      by k (by_task q r e) = q

      holder : (k : ℕ) → Dec (k < version_count y) → ℕ
      holder k (yes b) = by k (h.each_held k b)
      holder k (no d) = 0

      by_names : (k : ℕ) (x : HeldVersion y k) → (by k x < y.state.tasks) × (number (task_of y (by k x)).o ≡ k)
      by_names k (by_bucket e) = (below, sym h.has_o ∙ e)
      by_names k (by_task q r e) = (running_below q r, ap number e ∙ omega arith)

      names : (k : ℕ) → k < version_count y → (x : Dec (k < version_count y))
          → (holder k x < y.state.tasks) × (number (task_of y (holder k x)).o ≡ k)
      names k b (yes c) = by_names k (h.each_held k c)
      names k b (no d) = absurd (d b)
