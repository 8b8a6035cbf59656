pub mod Unchanged
pub mod Fits
pub mod OneByOne
pub mod RefusedTurns
pub mod Numbers
