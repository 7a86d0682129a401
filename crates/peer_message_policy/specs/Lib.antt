pub mod Policy
pub mod Calls
pub mod Merged
pub mod MergedLaws
pub mod Private
pub mod UpdateLaws
