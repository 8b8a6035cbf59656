pub mod EnoughRecords
pub mod HeldChains
pub mod HeldChainsKept
pub mod FewNodesHeld
pub mod RecordsSuffice
pub mod Examples
pub mod EnoughExamples
