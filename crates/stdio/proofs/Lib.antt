pub mod Laws
pub mod Closing
pub mod OutputLaws
