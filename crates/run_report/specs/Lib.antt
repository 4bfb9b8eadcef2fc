pub mod Counting
pub mod Counts
pub mod Prefixes
pub mod Lines
pub mod ConnectionReport
pub mod Report
