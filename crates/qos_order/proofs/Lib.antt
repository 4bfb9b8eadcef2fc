mod Balance
mod Even
mod Halves
mod Keyed
mod Opening
mod Rows
mod Sound
mod Turns
