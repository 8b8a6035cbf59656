-- With every node held there are fewer than 2T + 2: see specs/FewNodesHeld. Assumes nothing.
use Rattle.std.specs.Prelude.{◌≡◌, ℕ, ◌<◌}
use Rattle.std.proofs.Math.Bool.{true}
use Rattle.spec.specs.Machine.{Machine, task_of}
use Rattle.spec.specs.Sound.{node_count}
use Rattle.laws.specs.SoundFacts.{SoundFacts}
use Rattle.laws.specs.Held.{HeldNode}
use Rattle.bounds.specs.EnoughRecords.{enough_nodes}
use Rattle.bounds.specs.HeldChains.{ShortChains}
use Rattle.bounds.specs.FewNodesHeld.{node_list, node_list_length, node_listed, one_spare, covers_with_0}

module _ (y : Machine) (f : SoundFacts y) (chains : ShortChains y) where
  pub nodes_below : (p : ℕ) → (task_of y p).running ≡ true → (task_of y p).line ≡ 27 → ((k : ℕ) → k < node_count y → HeldNode y k)
      → node_count y < enough_nodes y.state.config.tasks
  nodes_below p r e all =
      rw (node_list_length y) at
      (covers_with_0 y f chains (node_count y) (node_list y) (one_spare y f chains p r e) (λ k lt. node_listed y f chains (all k lt)))
