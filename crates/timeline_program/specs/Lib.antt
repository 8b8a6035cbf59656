pub mod Running
pub mod Room
