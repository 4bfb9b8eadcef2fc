mod Fated
mod Firsts
mod Living
mod Ordered
mod Rows
mod Taken
mod Turned
