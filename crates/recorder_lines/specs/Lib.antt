pub mod KeptLines
pub mod KeptBytes
