pub mod Lexemes
pub mod Grammar
pub mod Advancing
pub mod Reason
