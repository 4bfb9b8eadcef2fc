mod Passes
mod Rows
mod Moves
