pub mod NoGame
pub mod MovesMade
pub mod Tries
pub mod Turns
