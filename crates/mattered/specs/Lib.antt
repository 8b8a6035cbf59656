pub mod EndedCalls
pub mod Mattered
pub mod SessionVerdict
pub mod Text
pub mod Rows
