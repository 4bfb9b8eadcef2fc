mod Commands
mod Complete
mod KnownBytes
mod Parts
mod Replays
mod RunAnswers
mod Runs
