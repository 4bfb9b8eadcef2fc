mod Meeting
mod Pieces
mod Rows
mod Writing
