pub mod Locations
pub mod Snippets
pub mod Diagnostics
