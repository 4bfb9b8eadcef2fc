mod Onward
mod Parts
mod Stepping
mod Weighing
