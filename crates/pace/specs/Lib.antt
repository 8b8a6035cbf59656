pub mod StepCounts
pub mod Heads
pub mod Pace
pub mod CountFits
pub mod CountsKept
pub mod Totals
pub mod EndsByTurns
pub mod Rows
