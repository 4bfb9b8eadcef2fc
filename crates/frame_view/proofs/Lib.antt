mod Following
mod ViewHeads
mod KnownBytes
mod OnFaults
mod Viewing
