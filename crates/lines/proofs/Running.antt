-- What a task that runs in sound memory has for its lines: its number, the head and the pools are in bounds, and its buckets are sound.
-- Assumes nothing.
use mathlib.Core.Path.{◌≡◌}
use mathlib.Core.List.{List}
use mathlib.Core.Bool.{true}
use Prim.Native.Nat.{ℕ, ◌-◌, ◌*◌, ◌<◌, ◌≤◌}
use native.Mathlib.Omega.{arith}
use lib.ListN.{length, drop}
use Rattle.laws.specs.SoundBuckets.{bucket_words, facts_bucket}
use Rattle.laws.specs.Soundness.{sound_facts}
use Rattle.spec.specs.Machine.{Machine}
use Rattle.spec.specs.declared.Task.{Task}
use Rattle.spec.specs.Sound.{sound_bucket}
use Rattle.lines.specs.Running.{Runs}

-- ---- what its lines need of it

pub record Numbers (y : Machine) (k : ℕ) : Type 0 where
  pub number : k < 8
  pub head : y.state.head < 64
  pub nodes : y.state.nodes ≤ 64
  pub last_node : y.state.last_node < y.state.nodes
  pub nodes_length : length y.nodes ≡ 34 * y.state.nodes

-- a link within the bucket pool
pub record Link (y : Machine) (l : ℕ) : Type 0 where
  pub most : l ≤ 1024
  pub fits : 66 * l ≤ length y.buckets
  pub good : 0 < l → sound_bucket (drop (66 * (l - 1)) y.buckets) ≡ true

module _ {y : Machine} {k : ℕ} {c : Task} {ls : List ℕ} (r : Runs y k c ls) where
  pub numbers : Numbers y k
  numbers =
      let f = sound_facts y r.is_sound in
      let t = r.task.below_T in
      let m = f.config.T_high in
      let h = f.head in
      let n = f.H_high in
      record { number = omega arith; head = omega arith; nodes = n; last_node = f.last_node; nodes_length = f.nodes_length }

  pub linked : (l : ℕ) → l ≤ y.state.buckets → Link y l
  unfolding bucket_words
  linked l h =
      let f = sound_facts y r.is_sound in
      let n = f.B_high in
      let w = f.buckets_length in
      record {
        most = omega arith;
        fits = omega arith;
        good = λ z.
            let i : l - 1 < y.state.buckets = omega arith in
            facts_bucket y w (l - 1) i (f.bucket (l - 1) i);
      }
