pub mod InOrder
pub mod Fairness
pub mod Erasure
pub mod NoEight
pub mod Theorems
