pub mod Search
pub mod Theorems
