pub mod ToldRows
