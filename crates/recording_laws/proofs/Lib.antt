pub mod RecordingRead
pub mod Theorems
