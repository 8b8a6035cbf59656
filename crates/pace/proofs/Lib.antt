pub mod CountFits
pub mod CountsKept
pub mod NoNewStarts
pub mod TurnsLeft
pub mod Theorems
