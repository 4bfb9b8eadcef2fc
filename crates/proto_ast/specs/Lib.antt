pub mod Dot
pub mod Joined
pub mod Order
pub mod Together
pub mod Within
