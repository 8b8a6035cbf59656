pub mod Reply
pub mod Running
