pub mod EchoStates
pub mod Echoing
pub mod Pairing
pub mod Ports
pub mod Serving
