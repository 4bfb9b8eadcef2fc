pub mod Content
pub mod Laid
pub mod Size
pub mod Stored
