-- Lemmas that the proofs of the signed operations share: tests with the same answer, and the laws of a sign with a number.
pub mod MagnitudeLaws
pub mod SignedLaws
pub mod Tests
-- What the proofs of more than one function use.
pub mod Unsigned
