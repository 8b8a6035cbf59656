-- One event of a schedule is one transition of the model, the history tells of it what the model's configuration has, and it is not refused
-- with 8. Assumes nothing.
use Rattle.std.specs.Prelude.{Err}
use Rattle.std.proofs.Math.Path.{◌≡◌}
use mathlib.Core.List.{List}
use Prim.Native.Nat.{ℕ, suc}
use Rattle.spec.specs.declared.Refusal.TheVariants.{Spoilt}
use Rattle.spec.specs.declared.Progress.TheVariants as Outs
use Rattle.spec.specs.Machine.{Machine}
use Rattle.spec.specs.Entries.{Reply}
use Rattle.spec.specs.Schedule.{Event}
use Rattle.spec.specs.History.{Ended, Started, note, tell}
use Rattle.model.specs.Runs.{Configuration, Reachable}
use Rattle.linear.specs.Simulates.{Simulates}
use Rattle.linear.specs.StartedAs.{StartedAs}

-- ---- before event n: the last starts, the ended calls, and the machine
pub record Before (n : ℕ) (last : ℕ → Started) (H : List Ended) (y : Machine) : Type 0 where
  pub configuration : Configuration
  pub reach : Reachable configuration
  pub clock : configuration.clock ≡ n
  pub sim : Simulates y configuration.heap configuration.position
  pub started_as : (q : ℕ) → StartedAs (last q) (configuration.position q) (configuration.start q)
  pub ended : H ≡ configuration.ended

-- ---- one event

abbrev pub After : ℕ → (ℕ → Started) → List Ended → Event → Reply → Type 0
After n last H e m = Before (suc n) (note n last e m.out) (tell n last H e m.out) m.machine × (¬ (m.out ≡ Err Spoilt))
