pub mod Undo
pub mod SameBut
pub mod StepWrites
pub mod StepUndone
