pub mod Checking
pub mod InputStops
pub mod Inputs
pub mod TextProgress
pub mod Stages
pub mod States
