-- `Loops` has the laws of one round of the loops of `decimal`, which their proofs cite.
pub mod Loops
