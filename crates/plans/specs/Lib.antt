pub mod Plan
pub mod Run
pub mod Rows
pub mod RunExamples
