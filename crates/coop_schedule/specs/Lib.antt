pub mod Encoding
pub mod Encoded
