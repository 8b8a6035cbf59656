-- What is kept of an order of the ended calls, and what is promised of it: it keeps real time, and in it the plain set gives every answer
-- and ends with the listed tags. Every reachable configuration has such an order: proofs/Linearization.
use Rattle.std.specs.Prelude.{◌≡◌, List, [], ℕ, ◌≤◌}
use Rattle.model.specs.Heap.{abs}
use Rattle.model.specs.HeapInvariant.{HeapInvariant}
use Rattle.spec.specs.Lists.{member}
use Rattle.spec.specs.History.{Ended}
use Rattle.spec.specs.Linearizable.{Order, Timely, Answers, after}
use Rattle.model.specs.Orders.{Begun}
use Rattle.model.specs.Runs.{Configuration}
use Rattle.model.specs.PositionFacts.{PositionFacts}
use Rattle.model.specs.Filling.{SourcesFew}

pub record Invariant (w : Configuration) (L : List Ended) : Type 0 where
  pub heap : HeapInvariant w.heap
  pub task : (p : ℕ) → PositionFacts w.heap L (w.start p) (w.position p)
  pub began : (p : ℕ) → w.start p ≤ w.clock
  pub order : Order w.ended L
  pub answers : Answers [] L
  pub timely : Timely L
  pub begun : Begun w.clock L
  pub same : (k : ℕ) → member k (after [] L) ≡ abs w.heap k
  pub sources_few : SourcesFew w.heap

-- what is promised of a schedule
pub record ModelLinearizable (w : Configuration) (L : List Ended) : Type 0 where
  pub order : Order w.ended L
  pub answers : Answers [] L
  pub timely : Timely L
  pub listed : (k : ℕ) → member k (after [] L) ≡ abs w.heap k
