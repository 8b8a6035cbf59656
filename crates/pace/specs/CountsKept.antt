-- A machine of a schedule where each task's count, told from events and outputs, fits its position in the model: kept by every event
-- (proofs/CountsKept). Assumes nothing.
use Rattle.std.specs.Prelude.{ℕ}
use Rattle.spec.specs.Machine.{Machine}
use Rattle.model.specs.Runs.{Configuration, Reachable}
use Rattle.linear.specs.Simulates.{Simulates}
use Rattle.pace.specs.StepCounts.{CallCount}
use Rattle.pace.specs.CountFits.{Fits}

pub record CountsFit (slack : ℕ) (c : ℕ → CallCount) (y : Machine) : Type 0 where
  pub configuration : Configuration
  pub reach : Reachable configuration
  pub sim : Simulates y configuration.heap configuration.position
  pub fits : (q : ℕ) → Fits slack configuration.heap (configuration.position q) (c q)
