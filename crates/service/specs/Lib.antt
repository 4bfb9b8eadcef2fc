pub mod Concluding
pub mod Ends
pub mod Handshakes
pub mod PreparedRun
pub mod Served
pub mod Starting
