pub mod LastLine
pub mod Any
pub mod Sessions
pub mod Notes
pub mod Plans
pub mod Games
