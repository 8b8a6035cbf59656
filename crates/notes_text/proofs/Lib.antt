pub mod Laws
pub mod MergedLaws
pub mod OrderLaws
