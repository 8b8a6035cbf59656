pub mod LentRecorder
pub mod WritesRecording
pub mod LineRecorder
pub mod OutputBounds
pub mod Known
pub mod Runs
