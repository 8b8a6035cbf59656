pub mod FewNodesHeld
pub mod FewBucketsHeld
pub mod RecordsSuffice
pub mod Theorems
pub mod EnoughExamples
