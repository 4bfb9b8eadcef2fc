pub mod Connection
pub mod Messages
pub mod Receiver
