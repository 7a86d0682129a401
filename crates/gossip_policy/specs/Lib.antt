pub mod Handed
pub mod State
pub mod Calls
