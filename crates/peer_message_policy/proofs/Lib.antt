pub mod Judged
pub mod Branches
pub mod Found
pub mod Changes
