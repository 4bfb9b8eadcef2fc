mod LastStore
mod Seats
mod Steps
mod Freshness
mod Calls
mod Rows
