pub mod Playing
pub mod Scripts
pub mod Unplayable
pub mod ReplayRanges
