pub mod Over
pub mod Records
pub mod Made
pub mod Laws
