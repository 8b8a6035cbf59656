pub mod Reading
pub mod LinesAnswer
pub mod OutsideLines
pub mod Program
