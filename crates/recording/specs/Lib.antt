pub mod Header
pub mod Recording
pub mod Verdict
pub mod Reader
pub mod Recorder
pub mod Everything
pub mod Rows
