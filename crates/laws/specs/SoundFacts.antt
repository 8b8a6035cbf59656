-- What sound memory is, as a record of facts: the same conditions as in the test, each stated of its record by number. That the test
-- and the record say the same is in Soundness. Assumes nothing.
use Rattle.std.specs.Prelude.{ℕ, ◌+◌, ◌*◌, ◌≤◌, ◌<◌, ◌≡◌, true, length, get_or}
use Rattle.spec.specs.declared.Task.{Task}
use Rattle.spec.specs.declared.Config.{Config}
use Rattle.spec.specs.Lists.{member, ascending}
use Rattle.spec.specs.Machine.{Machine, idle, task_of}
use Rattle.spec.specs.Words.{number, size, pred, place, changeable, count, tags}
use Rattle.spec.specs.Sound.{task_count, node_count, bucket_count, lines_of, resizes}
use Rattle.laws.specs.Sizes.{Size}

-- none, or a node of the pool that has a size
pub record NodeLink (y : Machine) (l : ℕ) : Type 0 where
  pub within : l ≤ node_count y
  pub sized : ¬ (l ≡ 0) → ¬ (size y.nodes (number l) ≡ 0)

pub record NodeFacts (y : Machine) (k : ℕ) : Type 0 where
  pub size_ok : Size (size y.nodes k)
  pub pred_ok : NodeLink y (pred y.nodes k)
  pub place_ok : (i : ℕ) → i < 32 → place y.nodes k i ≤ bucket_count y
  pub past : (i : ℕ) → size y.nodes k ≤ i → i < 32 → place y.nodes k i ≡ 0

pub record BucketFacts (y : Machine) (k : ℕ) : Type 0 where
  pub flag : changeable y.buckets k ≤ 1
  pub few : count y.buckets k ≤ 64
  pub long : length (tags y.buckets k) ≡ count y.buckets k
  pub rising : ascending (tags y.buckets k) ≡ true
  pub after : (j : ℕ) → count y.buckets k ≤ j → j < 64 → get_or y.buckets (66 * k + 2 + j) 0 ≡ 0

pub record RunFacts (y : Machine) (k : ℕ) (c : Task) : Type 0 where
  pub below_T : k < task_count y
  pub line : member c.line (lines_of c.call) ≡ true
  pub i : c.i ≤ 32
  pub tag : resizes c.call ≡ true → c.tag ≡ 0
  pub t : NodeLink y c.t
  pub s : NodeLink y c.s
  pub new_node : NodeLink y c.new_node
  pub b : c.b ≤ bucket_count y
  pub m : c.m ≤ bucket_count y
  pub n : c.n ≤ bucket_count y
  pub new_bucket : c.new_bucket ≤ bucket_count y

pub data TaskFacts (y : Machine) (k : ℕ) (c : Task) : Type 0 where
  runs : c.running ≡ true → RunFacts y k c → TaskFacts y k c
  is_idle : c ≡ idle → TaskFacts y k c

-- what the state keeps of its opening
pub record ConfigFacts (g : Config) : Type 0 where
  pub T_low : 1 ≤ g.tasks
  pub T_high : g.tasks ≤ 8
  pub version_low : 1 ≤ g.version
  pub version_high : g.version ≤ 2

pub record SoundFacts (y : Machine) : Type 0 where
  pub config : ConfigFacts y.state.config
  pub H_low : 1 ≤ node_count y
  pub H_high : node_count y ≤ 64
  pub B_low : 1 ≤ bucket_count y
  pub B_high : bucket_count y ≤ 1024
  pub nodes_length : length y.nodes ≡ 34 * node_count y
  pub buckets_length : length y.buckets ≡ 66 * bucket_count y
  pub head : y.state.head < node_count y
  pub last_node : y.state.last_node < node_count y
  pub last_bucket : y.state.last_bucket < bucket_count y
  pub head_sized : ¬ (size y.nodes y.state.head ≡ 0)
  pub chosen : y.state.chosen < task_count y
  pub node : (k : ℕ) → k < node_count y → NodeFacts y k
  pub bucket : (k : ℕ) → k < bucket_count y → BucketFacts y k
  -- also for k past the list: task_of then gives idle
  pub task : (k : ℕ) → TaskFacts y k (task_of y k)
