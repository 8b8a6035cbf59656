pub mod Lines
pub mod Lengths
pub mod EachEvent
pub mod Stopped
