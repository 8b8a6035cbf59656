pub mod Compared
pub mod Earliest
pub mod RefusedSteps
pub mod Refusals
pub mod CallsKept
pub mod Histories
pub mod Cases
pub mod EndedCallRows
