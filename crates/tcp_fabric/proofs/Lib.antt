mod Known
mod Slots
mod Windows
