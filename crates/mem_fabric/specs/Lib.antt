pub mod Fabric
pub mod Injected
pub mod Opening
pub mod Pair
