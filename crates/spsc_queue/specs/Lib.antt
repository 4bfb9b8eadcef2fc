pub mod Credits
pub mod Ends
pub mod Names
pub mod Pieces
pub mod Readers
pub mod Sides
