mod Middle
mod Peers
mod Rows
