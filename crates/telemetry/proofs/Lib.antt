mod Adding
mod Counted
mod Merging
mod Rows
