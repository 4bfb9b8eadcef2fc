pub mod Applications
pub mod Closing
pub mod RingEnds
pub mod Listing
pub mod Scheduling
pub mod Pooling
pub mod Weighing
pub mod Wired
