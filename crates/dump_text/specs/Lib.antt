pub mod Decides
pub mod Within
