mod Ascending
mod KnownBytes
mod OneView
mod Plainness
mod Reading
mod Stops
mod Walking
