pub mod Later
pub mod Rule
pub mod Workers
pub mod Visits
