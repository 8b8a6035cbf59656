pub mod Parts
pub mod Places
pub mod Turns
pub mod LongLines
pub mod Programs
