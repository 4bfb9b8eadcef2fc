pub mod Decodings
