pub mod Contents
pub mod Faults
pub mod FrameRanges
pub mod Input
pub mod Views
pub mod ViewRanges
pub mod Written
