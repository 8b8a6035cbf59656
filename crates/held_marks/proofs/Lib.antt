pub mod Laws
pub mod Round
