pub mod Apply36
