pub mod FirstMove
pub mod Forcing
pub mod MoreTurns
pub mod Theorems
