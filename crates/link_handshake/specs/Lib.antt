pub mod Handshake
pub mod Receiving
