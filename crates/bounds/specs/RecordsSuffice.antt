-- What holds of a machine of a schedule that was opened with enough records: proofs/RecordsSuffice. Assumes nothing.
use Rattle.std.specs.Prelude.{◌≤◌}
use Rattle.spec.specs.Machine.{Machine}
use Rattle.spec.specs.Sound.{task_count, node_count, bucket_count}
use Rattle.model.specs.Runs.{Configuration, Reachable}
use Rattle.linear.specs.Simulates.{Simulates}
use Rattle.bounds.specs.EnoughRecords.{enough_nodes, enough_buckets}
use Rattle.bounds.specs.HeldChains.{ShortChains}

-- ---- a machine of a schedule that was opened with enough records
pub record EnoughNow (y : Machine) : Type 0 where
  pub configuration : Configuration
  pub reach : Reachable configuration
  pub sim : Simulates y configuration.heap configuration.position
  pub chains : ShortChains y
  pub nodes : enough_nodes (task_count y) ≤ node_count y
  pub buckets : enough_buckets (task_count y) ≤ bucket_count y
