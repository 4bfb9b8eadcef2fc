pub mod Fabric
pub mod Link
pub mod Sockets
