pub mod Follows
pub mod Kept
pub mod Running
pub mod Consistency
pub mod PendingLines
pub mod Tickets
