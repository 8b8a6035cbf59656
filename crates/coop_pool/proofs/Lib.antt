pub mod Making
mod Own
