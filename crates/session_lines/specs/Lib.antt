pub mod PoolLengths
pub mod Openings
pub mod PrintsTranscript
pub mod KnownMemory
pub mod LinesOutside
pub mod OutputBounds
pub mod BufferParts
