mod Lists
mod Moves
mod Orders
mod Rows
