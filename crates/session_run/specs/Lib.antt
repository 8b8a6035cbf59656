pub mod Running
pub mod Knowing
