-- `Copies` has the laws of a write into a part of a slice, of a copy within one, and of one turn of a loop that copies byte by byte, which
-- the proofs of `run` cite.
pub mod Copies
