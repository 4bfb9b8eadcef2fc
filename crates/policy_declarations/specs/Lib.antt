pub mod Blocks
pub mod Declarations
pub mod HeadTests
pub mod DeclarationTexts
pub mod NameIndexes
pub mod Reading
