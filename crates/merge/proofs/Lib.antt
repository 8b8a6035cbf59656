pub mod SetLaws
pub mod Laws
pub mod SearchLaws
pub mod MergeLaws
