pub mod Account
pub mod Weights
pub mod Wheel
