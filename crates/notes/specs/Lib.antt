pub mod Orders
pub mod Merge
pub mod Theorems
pub mod Cost
pub mod Text
pub mod Cases
pub mod NoteExamples
