pub mod Inners
pub mod Known
pub mod Sentinels
pub mod Queueing
pub mod Writers
