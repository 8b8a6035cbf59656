pub mod PartialLines
pub mod Filling
