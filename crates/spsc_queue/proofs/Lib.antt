mod CreditMoves
mod GivenLemmas
mod Moves
mod Rows
