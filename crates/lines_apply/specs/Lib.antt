pub mod Invokes
