pub mod CallEnds
pub mod Invariant
pub mod Linearization
pub mod TakesEffect
