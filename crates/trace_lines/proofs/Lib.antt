-- `Hex` has the laws of hex digits and of the loop that reads a key, `Written` those of a line that is written piece by piece.
pub mod Hex
pub mod Written
