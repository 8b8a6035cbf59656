pub mod KeptEvents
pub mod LinesVerdict
pub mod OutsideLines
pub mod Program
pub mod Reading
