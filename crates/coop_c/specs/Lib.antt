pub mod Answers
pub mod Calls
pub mod Unchanged
pub mod Fits
pub mod Schedules
