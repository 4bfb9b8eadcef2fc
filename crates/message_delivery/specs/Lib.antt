pub mod Arriving
pub mod Noticing
