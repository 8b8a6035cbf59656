pub mod Turn
pub mod Moves
pub mod Turns
pub mod Promises
pub mod TurnRows
pub mod TurnsRows
pub mod PromiseExamples
