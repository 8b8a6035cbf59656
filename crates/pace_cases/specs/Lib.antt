pub mod Examples
pub mod PromiseExamples
