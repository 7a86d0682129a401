-- `Moves` has the laws of the writes that move rows and write numbers, which the proofs of `rows` cite.
pub mod Moves
