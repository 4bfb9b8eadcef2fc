pub mod Gaps
pub mod Literals
pub mod Scanning
pub mod Strings
pub mod Tokens
