pub mod Unchanged
pub mod Tables
pub mod Refusals
pub mod TurnOutcome
pub mod Turns
