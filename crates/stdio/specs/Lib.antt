pub mod Inputs
pub mod Readers
pub mod Loops
pub mod LongLines
pub mod Outcomes
pub mod Passing
pub mod Runs
pub mod Streams
