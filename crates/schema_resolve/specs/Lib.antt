pub mod Tables
pub mod Resolving
pub mod Placing
pub mod InOrder
pub mod ShapedFields
pub mod Joining
pub mod Making
