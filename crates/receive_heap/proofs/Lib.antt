mod Calls
mod Joins
mod Kept
mod OneLayout
mod Places
