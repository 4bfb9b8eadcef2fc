pub mod Fates
pub mod ReceiverTraces
pub mod Decoding
pub mod Order
pub mod Turns
