pub mod Entries
pub mod Escapes
pub mod Lines
pub mod Numbers
pub mod MapEntries
