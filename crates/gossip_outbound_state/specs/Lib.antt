pub mod State
pub mod Private
pub mod CarryLaws
