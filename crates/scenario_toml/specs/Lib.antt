pub mod Spans
pub mod Values
