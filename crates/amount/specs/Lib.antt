pub mod Amount
pub mod AmountLaws
pub mod Private
pub mod AmountOfLaws
