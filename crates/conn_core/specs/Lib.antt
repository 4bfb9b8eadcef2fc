pub mod Connections
pub mod Invariant
pub mod ConnectionSteps
