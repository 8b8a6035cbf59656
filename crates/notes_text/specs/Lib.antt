pub mod Printing
pub mod Reading
pub mod Lines
pub mod OutputBound
