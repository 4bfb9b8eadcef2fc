mod Rows
mod Bounds
