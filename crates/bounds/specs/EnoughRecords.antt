-- Paper 02, U11, its first promise, as a type: "For T tasks, 2T + 2 nodes and 32 × (2T + 2) + 4T buckets always suffice: opened with at
-- least these, no schedule meets refusal 7." Proved in proofs/Theorems; Examples has schedules that do meet it. Assumes nothing.
use Rattle.std.specs.Prelude.{ℕ, ◌+◌, ◌*◌, ◌≤◌, ◌≡◌, List, [], ◌∷◌, length, Err}
use Rattle.spec.specs.declared.Refusal.TheVariants.{NoRecord}
use Rattle.spec.specs.declared.Config.{Config}
use Rattle.spec.specs.Outputs.{Output}

-- "For T tasks, 2T + 2 nodes"
abbrev pub enough_nodes : ℕ → ℕ
enough_nodes t = 2 * t + 2

-- "and 32 × (2T + 2) + 4T buckets"
abbrev pub enough_buckets : ℕ → ℕ
enough_buckets t = 32 * (2 * t + 2) + 4 * t

-- "opened with at least these": what the opening is given, and the two slices; a node is 34 words, a bucket 66
pub record Enough (g : Config) (ns bs : List ℕ) : Type 0 where
  pub nodes : 34 * enough_nodes g.tasks ≤ length ns
  pub buckets : 66 * enough_buckets g.tasks ≤ length bs

-- "no schedule meets refusal 7": none is among its outputs
abbrev pub NoSeven : List Output → Type 0
NoSeven [] = Unit {0}
NoSeven (o ∷ os) = (¬ (o ≡ Err NoRecord)) × NoSeven os
