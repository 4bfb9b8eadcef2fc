pub mod Counting
pub mod Drill
pub mod Holding
pub mod Meeting
pub mod Runs
