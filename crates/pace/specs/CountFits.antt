-- A task's count fits its position in the model: it is at most what can have been made until there, and the head has moved no more often
-- than resizes were done. What follows of the most steps of its call: proofs/CountFits. Assumes nothing.
use Rattle.std.specs.Prelude.{◌≡◌, true, false, ℕ, ◌+◌, ◌≤◌, ◌<◌}
use Rattle.std.proofs.Common.{arith}
use Rattle.spec.specs.declared.Call.{Call}
use Rattle.spec.specs.declared.Call.TheVariants.{Insert, Remove, Contains, Grow, Shrink}
use Rattle.model.specs.Heap.{Heap}
use Rattle.model.specs.Positions.{Position, no_call}
use Rattle.pace.specs.StepCounts.{CallCount, most_steps}
use Rattle.pace.specs.Pace.{Paced}

-- ---- a task's count fits its position. `slack` is 0 for a count that began with the call; a count that began later has its base one
-- behind the head, since the pass under way may be at an older node
pub record RunningFits (slack : ℕ) (h : Heap) (l : Position) (c : CallCount) : Type 0 where
  pub base : ℕ
  pub base_reached : base ≤ h.head
  pub moved_by : h.head ≤ base + c.resizes + slack
  pub paced : Paced c.call c.accepted h.head base l

pub data Fits (slack : ℕ) (h : Heap) (l : Position) (c : CallCount) : Type 0 where
  not_running : l ≡ no_call → c.running ≡ false → c.accepted ≤ most_steps c.call (c.resizes + slack) → Fits slack h l c
  is_running : c.running ≡ true → RunningFits slack h l c → Fits slack h l c

-- within its most steps; below while it runs
abbrev pub WithinMost : ℕ → CallCount → Type 0
WithinMost slack c =
    let most = most_steps c.call (c.resizes + slack) in (c.accepted ≤ most) × (c.running ≡ true → c.accepted < most)

-- with more resizes done more steps are allowed
pub most_more : (c : Call) (r j : ℕ) → most_steps c r ≤ most_steps c (r + j)
most_more Insert r j = omega arith
most_more Remove r j = omega arith
most_more Contains r j = omega arith
most_more Grow r j = omega arith
most_more Shrink r j = omega arith
