mod Moves
mod Values
