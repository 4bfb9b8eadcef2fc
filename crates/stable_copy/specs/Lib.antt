pub mod Unmodified
