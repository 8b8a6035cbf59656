pub mod Cases
pub mod RoleExamples
