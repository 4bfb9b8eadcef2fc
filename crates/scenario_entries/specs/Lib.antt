pub mod Entries
pub mod FirstReasons
pub mod ChainEntries
pub mod Marking
pub mod Owning
pub mod AppConnections
