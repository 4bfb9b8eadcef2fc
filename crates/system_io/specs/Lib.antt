pub mod FileSink
pub mod Streams
