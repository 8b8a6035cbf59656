-- What the lines need, from a sound state and a running task. Assumes nothing.
use mathlib.Core.Path.{◌≡◌, sym, ◌∙◌}
use mathlib.Core.List.{List, [], ◌∷◌}
use mathlib.Core.Bool.{Bool, true, ◌&&◌}
use Prim.Native.Nat.{ℕ, zero, suc, ◌+◌, ◌*◌, ◌<◌, ◌≤◌}
use native.Mathlib.Omega.{arith}
use borrow.Author.Tests.{leb-true, ltb-true}
use lib.Dec.{ltb}
use lib.ListN.{length, get_or, drop}
use lib.Seq.{drop-drop}
use Rattle.laws.specs.Tests.{and_left, and_right, and3, and4, if_true}
use Rattle.spec.specs.Lists.{member}
use Rattle.spec.specs.Words.{number}
use Rattle.spec.specs.Sound.{count_in_bounds, tags_ascend, zeros_after_tags}
use Rattle.coop_spec.specs.declared.State.{State}
use Rattle.coop_spec.specs.declared.Task.{Task}
use Rattle.coop_spec.specs.Machine.{Machine, machine_of, idle, task_of}
use Rattle.coop_spec.specs.Sound.{lines_of, task_below_T, line_of_call, back_of_line, operation_of_call, tag_of_call, o_in_pool, helped_invoked}
use Rattle.coop_spec.specs.Sound.{sound_op_word, sound_tags, sound_version, sound_versions, sound_numbers, sound}
use Rattle.coop_spec.specs.Sound.{sound_running, zero_task, sound_task, sound_tasks}
use Rattle.coop_pool.specs.Versions.{Tagged}
use Rattle.coop_sound.proofs.Laws.{Numbers, numbers}
use Rattle.coop_lines.specs.Reply.{Ready}
use Rattle.coop.proofs.Laws.{every_line, known}

nth_version : (y : Machine) (n : ℕ) (w : List ℕ) (k : ℕ) → sound_versions y n w ≡ true → k < n → sound_version y (drop (66 * k) w) ≡ true
unfolding sound_versions
nth_version y zero w k s h = absurd (omega arith)
nth_version y (suc n) w zero s h = and_left (sound_version y w) (sound_versions y n (drop 66 w)) s
nth_version y (suc n) w (suc k) s h =
    let q : 66 * suc k ≡ 66 + 66 * k = omega arith in
    let t = and_right (sound_version y w) (sound_versions y n (drop 66 w)) s in
    rw (q, ← drop-drop (66 * k) 66 w) (nth_version y n (drop 66 w) k t (omega arith))

nth_task : (y : Machine) (j : ℕ) (ts : List Task) (k : ℕ) → sound_tasks y j ts ≡ true → k < length ts
    → sound_task y (j + k) (get_or ts k idle) ≡ true
unfolding sound_tasks
nth_task y j [] k s h = absurd (omega arith)
nth_task y j (c ∷ cs) zero s h =
    let q : j + 0 ≡ j = omega arith in
    rw q (and_left (sound_task y j c) (sound_tasks y (suc j) cs) s)
nth_task y j (c ∷ cs) (suc k) s h =
    let q : j + suc k ≡ suc j + k = omega arith in
    rw q (nth_task y (suc j) cs k (and_right (sound_task y j c) (sound_tasks y (suc j) cs) s) (omega arith))

module _ (s : State) (vs : List ℕ) (g : sound (machine_of s vs) ≡ true) where
  abbrev y : Machine
  y = machine_of s vs

  record Parts : Type 0 where
    numbers_part : sound_numbers y ≡ true
    versions_part : sound_versions y s.versions vs ≡ true
    tasks_part : sound_tasks y 0 s.task ≡ true

  parts : Parts
  unfolding sound
  parts = let p = and4 _ _ _ _ g in record { numbers_part = p.0; versions_part = p.2; tasks_part = p.3 }

  pub bounds : Numbers y
  bounds = numbers y parts.numbers_part

  pub tagged : (k : ℕ) → k < s.versions → Tagged vs k
  unfolding sound_version sound_tags
  tagged k h =
      let w = drop (66 * k) vs in
      let n = bounds in
      let p = and_right (sound_op_word y (get_or w 0 0)) (sound_tags w) (nth_version y s.versions vs k parts.versions_part h) in
      let q = and3 (count_in_bounds w) (tags_ascend w) (zeros_after_tags w) p in
      record { fits = omega arith; few = q.0; up = q.1 }

  module _ (k : ℕ) (l : length s.task ≡ 8) (h : k < s.tasks) (r : (task_of y k).running ≡ true) where
    running : sound_running y k (task_of y k) ≡ true
    unfolding sound_task task_of
    running =
        let n = bounds in
        let z : 0 + k ≡ k = omega arith in
        let t = rw z at (nth_task y 0 s.task k parts.tasks_part (omega arith)) in
        sym (if_true (task_of y k).running (sound_running y k (task_of y k)) (zero_task (task_of y k)) r) ∙ t

    record Runs : Type 0 where
      line_in : member (task_of y k).line (lines_of (task_of y k).call) ≡ true
      op_low : (task_of y k).op < 64
      o_in : (task_of y k).o ≤ s.versions

    runs : Runs
    unfolding sound_running operation_of_call
    runs =
        let c = task_of y k in
        let a : Bool = task_below_T y k && line_of_call c in
        let b : Bool = a && back_of_line c && operation_of_call y c in
        let d : Bool = b && tag_of_call c && o_in_pool y c in
        let to_o : d ≡ true = and_left d (helped_invoked y c) running in
        let to_tag : (b && tag_of_call c) ≡ true = and_left (b && tag_of_call c) (o_in_pool y c) to_o in
        let to_op : b ≡ true = and_left b (tag_of_call c) to_tag in
        let to_back : (a && back_of_line c) ≡ true = and_left (a && back_of_line c) (operation_of_call y c) to_op in
        record {
          line_in = and_right (task_below_T y k) (line_of_call c) (and_left a (back_of_line c) to_back);
          op_low = ltb-true _ _ (and_left (ltb c.op 64) _ (and_right (a && back_of_line c) (operation_of_call y c) to_op));
          o_in = leb-true _ _ (and_right (b && tag_of_call c) (o_in_pool y c) to_o);
        }

    pub ready : Ready s vs (task_of y k)
    ready =
        let n = bounds in
        let t = runs in
        record {
          versions_most = n.versions_most;
          pool_length = n.pool_length;
          node_in = n.node_in;
          last_in = n.last_in;
          op_low = t.op_low;
          o_tagged = λ z. tagged (number (task_of y k).o) (omega (arith, z, t.o_in));
        }

    pub line_known : member (task_of y k).line every_line ≡ true
    line_known = known (task_of y k).call (task_of y k).line runs.line_in
