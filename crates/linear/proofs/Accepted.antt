-- What rests on statements of specs/Accepted.antt that a must-fail edit makes false: theorems moved from there as they stood. Assumes nothing.
use Rattle.std.specs.Prelude.{◌≡◌, true, ℕ}
use mathlib.Core.List.{List}
use Rattle.spec.specs.Machine.{Machine, task_of}
use Rattle.laws.specs.SoundFacts.{SoundFacts}
use Rattle.laws.specs.Tests.{tf}
use Rattle.spec.specs.History.{Ended}
use Rattle.model.specs.Positions.{Position, no_call, lookup, update, resize}
use Rattle.model.specs.Runs.{Configuration}
use Rattle.model.specs.PositionFacts.{PositionFacts}
use Rattle.model.specs.Linearization.{Invariant}
use Rattle.linear.specs.EffectOf.{Accepts}
use Rattle.linear.specs.LookupLines.{lookup_accepts}
use Rattle.linear.proofs.UpdateLines.{update_accepts}
use Rattle.linear.proofs.ResizeLines.{resize_accepts}
use Rattle.linear.specs.Simulates.{Simulates}
use Rattle.linear.specs.KnownNodes.{Names, Known, takes_at, named}
use Rattle.linear.specs.Matches.{Matches}
use Rattle.linear.specs.Taken.{Taken}

-- ---- what a running task does
module _ {y : Machine} {w : Configuration} {L : List Ended} (sim : Simulates y
    w.heap w.position) (f : SoundFacts y) (i : Invariant w L) (p : ℕ) (r : (task_of y p).running ≡ true) where
  pub accepts : Accepts sim.rep (task_of y p) (w.position p)
  accepts = go (w.position p) (sim.matches p) (i.task p) (λ x n. named p n) (sim.taken p)
    where
      go : (l : Position) → Matches w.heap sim.records l (task_of y p) → PositionFacts w.heap L (w.start p) l
          → ((x : ℕ) → Names l x → Known w.heap w.position x)
          → Taken y w.heap (Known w.heap w.position) sim.records (takes_at l) (task_of y p) → Accepts sim.rep (task_of y p) l
      go no_call m o names v = absurd (tf r m)
      go (lookup k l) m o names v = lookup_accepts i.heap sim.rep L (w.start p) (task_of y p) k l m o names
      go (update u k l) m o names v = update_accepts f i.heap sim.rep (task_of y p) k u l m o names v
      go (resize u l) m o names v = resize_accepts f i.heap sim.rep (task_of y p) u l m o names v
