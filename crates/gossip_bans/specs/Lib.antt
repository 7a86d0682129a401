pub mod Handed
pub mod Tracker
pub mod Private
pub mod Calls
pub mod TrackerLaws
