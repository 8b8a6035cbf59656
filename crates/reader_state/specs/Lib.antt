pub mod Standing
pub mod ListedLines
