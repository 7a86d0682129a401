pub mod Branches
pub mod Making
