pub mod Laws
pub mod Counts
pub mod Joined
pub mod Zeros
