pub mod Steps
pub mod Linearization
