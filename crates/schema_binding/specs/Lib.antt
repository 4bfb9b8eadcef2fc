pub mod Agreement
pub mod Hello
pub mod Places
pub mod Reach
pub mod Disagreement
