pub mod Settling
pub mod Taking
pub mod Running
pub mod Giving
