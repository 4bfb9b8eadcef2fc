pub mod Faults
pub mod Without
pub mod Lines
pub mod Reading
pub mod Redacting
pub mod LineContent
pub mod Texts
