pub mod Drawing
pub mod Rule
pub mod Splitting
