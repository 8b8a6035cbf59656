pub mod Compared
pub mod Verdicts
