pub mod Cases
pub mod Told
pub mod SpoiltRows
pub mod OrderExamples
pub mod PartExamples
