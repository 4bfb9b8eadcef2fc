pub mod Closings
pub mod Joining
pub mod Parts
pub mod Served
