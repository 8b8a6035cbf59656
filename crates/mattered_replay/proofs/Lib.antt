pub mod Replayed
pub mod EventsLeft
pub mod Noting
