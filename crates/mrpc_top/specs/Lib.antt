pub mod Command
pub mod Replaying
pub mod Runs
pub mod RunPlans
