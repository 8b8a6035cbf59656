pub mod EntriesKeep
pub mod Held
pub mod LinesKeep
pub mod Taking
