pub mod Encoding
pub mod Records
