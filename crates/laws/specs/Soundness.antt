-- The test `sound` passes exactly if the facts of SoundFacts hold. What follows for a running task and for a filled link.
-- Assumes nothing.
use Rattle.std.specs.Prelude.{ℕ, ◌+◌, ◌*◌, ◌≤◌, ◌<◌, ◌↔◌, ◌≡◌, true, leb, get_or}
use Rattle.std.proofs.Common.{ap}
use native.Mathlib.Omega.{arith}
use borrow.Author.Tests.{eqb-true, eq-eqb, leb-true, le-leb, ltb-true, lt-ltb}
use Rattle.std.proofs.Math.ListN.{length}
use Rattle.spec.specs.declared.Task.{Task}
use Rattle.spec.specs.declared.Config.{Config}
use Rattle.spec.specs.Machine.{Machine, idle, task_of}
use Rattle.spec.specs.Words.{link, number, size}
use Rattle.spec.specs.Sound.{within, config_sound, node_count, bucket_count, sound_nodes, sound_buckets, sound_tasks, sound_numbers, sound}
use Rattle.laws.specs.Tests.{tf, and2, and4, and_i, and4_i, passes, no_more, ◌also◌, all_pass}
use Rattle.laws.specs.SoundNodes.{words, node_facts, at_nodes, nodes_at, facts_node}
use Rattle.laws.specs.SoundFacts.{ConfigFacts, SoundFacts, RunFacts, NodeLink, TaskFacts, runs, is_idle}
use Rattle.laws.specs.Sizes.{ListedSize, size_listed}
use Rattle.laws.specs.SoundBuckets.{bucket_words, bucket_facts, at_buckets, buckets_at, facts_bucket}
use Rattle.laws.specs.Links.{filled_true, true_filled}
use Rattle.laws.specs.SoundTasks.{task_facts, at_tasks, tasks_at, facts_task}

-- ---- a number within bounds

pub within_facts : (lo hi n : ℕ) → within lo hi n ≡ true → (lo ≤ n) × (n ≤ hi)
within_facts lo hi n e = let p = and2 (leb lo n) (leb n hi) e in (leb-true lo n p.0, leb-true n hi p.1)

facts_within : (lo hi n : ℕ) → lo ≤ n → n ≤ hi → within lo hi n ≡ true
facts_within lo hi n a b = and_i (leb lo n) (leb n hi) (le-leb lo n a) (le-leb n hi b)

-- ---- what the state keeps of its opening

pub config_facts : (g : Config) → config_sound g ≡ true → ConfigFacts g
unfolding config_sound
config_facts g e =
    let t = within_facts 1 8 g.tasks (passes _ e 0) in
    let v = within_facts 1 2 g.version (passes _ e 1) in
    record { T_low = t.0; T_high = t.1; version_low = v.0; version_high = v.1 }

facts_config : (g : Config) → ConfigFacts g → config_sound g ≡ true
unfolding config_sound
facts_config g f =
    all_pass
    (facts_within 1 8 g.tasks f.T_low f.T_high
    also facts_within 1 2 g.version f.version_low f.version_high
    also no_more)

-- ---- the whole

module _ (y : Machine) where
  parts : sound y ≡ true
      → (sound_numbers y ≡ true) × (sound_nodes y (node_count y) y.nodes ≡ true) × (sound_buckets (bucket_count y) y.buckets ≡ true) ×
      (sound_tasks y 0 y.state.task ≡ true)
  unfolding sound
  parts e = and4 _ _ _ _ e

  pub sound_facts : sound y ≡ true → SoundFacts y
  unfolding sound_numbers words bucket_words task_of
  sound_facts e =
      let p = parts e in
      let n = passes _ p.0 in
      let h = within_facts 1 64 (node_count y) (n 1) in
      let b = within_facts 1 1024 (bucket_count y) (n 2) in
      let fits : length y.buckets ≡ 66 * bucket_count y = eqb-true _ _ (n 4) in
      record {
        config = config_facts _ (n 0);
        H_low = h.0;
        H_high = h.1;
        B_low = b.0;
        B_high = b.1;
        nodes_length = eqb-true _ _ (n 3);
        buckets_length = fits;
        head = ltb-true _ _ (n 5);
        last_node = ltb-true _ _ (n 6);
        last_bucket = ltb-true _ _ (n 7);
        head_sized = filled_true _ (n 8);
        chosen = ltb-true _ _ (n 9);
        node = λ k q. node_facts y k (nodes_at y (node_count y) y.nodes p.1 k q);
        bucket = λ k q. bucket_facts y fits k q (buckets_at (bucket_count y) y.buckets p.2 k q);
        task = λ k. let z : 0 + k ≡ k = omega arith in task_facts y k (get_or y.state.task k idle) (rw z at (tasks_at y 0 y.state.task p.3 k));
      }

  pub facts_sound : SoundFacts y → sound y ≡ true
  unfolding sound sound_numbers words bucket_words task_of
  facts_sound f = and4_i _ _ _ _
      (all_pass (facts_config _ f.config also facts_within 1 64 _ f.H_low f.H_high also facts_within 1 1024 _ f.B_low f.B_high
      also eq-eqb _ _ f.nodes_length also eq-eqb _ _ f.buckets_length also lt-ltb _ _ f.head also lt-ltb _ _ f.last_node
      also lt-ltb _ _ f.last_bucket also true_filled _ f.head_sized also lt-ltb _ _ f.chosen also no_more))
      (at_nodes y (node_count y) y.nodes (λ k q. facts_node y k (f.node k q)))
      (at_buckets (bucket_count y) y.buckets (λ k q. facts_bucket y f.buckets_length k q (f.bucket k q)))
      (at_tasks y 0 y.state.task (λ k. let z : 0 + k ≡ k = omega arith in rw z (facts_task y k (get_or y.state.task k idle) (f.task k))))

  pub sound_iff : (sound y ≡ true) ↔ SoundFacts y
  sound_iff = (sound_facts, facts_sound)

-- a running task's facts
pub run_of : (y : Machine) → SoundFacts y → (k : ℕ) → (task_of y k).running ≡ true → RunFacts y k (task_of y k)
unfolding idle
run_of y f k r = go (f.task k)
  where
    go : TaskFacts y k (task_of y k) → RunFacts y k (task_of y k)
    go (runs q g) = g
    go (is_idle q) = absurd (tf r (ap (λ (c : Task). c.running) q))

pub node_used : (y : Machine) → SoundFacts y → (k : ℕ) → k < node_count y → ¬ (size y.nodes k ≡ 0) → ListedSize (size y.nodes k)
node_used y f k h d = size_listed (f.node k h).size_ok d

-- what a filled node link names
pub record Named (y : Machine) (l : ℕ) : Type 0 where
  pub below : number l < node_count y
  pub is : l ≡ link (number l)
  pub size : ListedSize (size y.nodes (number l))

pub named : (y : Machine) → SoundFacts y → (l : ℕ) → NodeLink y l → ¬ (l ≡ 0) → Named y l
named y f l g d =
    let w = g.within in
    let b : number l < node_count y = omega arith in
    record { below = b; is = omega arith; size = node_used y f (number l) b (g.sized d) }
