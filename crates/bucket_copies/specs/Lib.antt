pub mod Copies
pub mod Walk
