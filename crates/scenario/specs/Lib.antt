pub mod Keys
pub mod Reasons
pub mod Lines
pub mod Policies
pub mod Applications
pub mod Operators
pub mod Scenarios
