mod Copied
mod EchoRows
mod Echoings
mod Listing
mod Parting
mod Rows
mod Served
