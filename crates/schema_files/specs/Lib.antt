pub mod Joined
pub mod Placing
pub mod Reason
pub mod Resolving
pub mod Unread
