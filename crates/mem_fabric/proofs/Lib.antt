mod Causes
mod Outgoing
mod Rows
mod Search
