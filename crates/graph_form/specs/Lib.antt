pub mod Forgotten
pub mod Loading
pub mod Malformed
pub mod Placed
pub mod Roles
pub mod Stored
pub mod Words
