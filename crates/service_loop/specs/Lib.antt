pub mod Calls
pub mod Delivering
pub mod Rounds
pub mod Serving
pub mod ScheduledOps
pub mod Within
