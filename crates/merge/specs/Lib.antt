pub mod Inside
pub mod Trying
