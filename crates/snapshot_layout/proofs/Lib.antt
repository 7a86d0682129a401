-- `Walk` has the laws of the loops over the lists of kinds and lengths.
pub mod Walk
