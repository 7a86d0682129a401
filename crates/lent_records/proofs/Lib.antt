pub mod AlteringOneLaws
pub mod AlteringTwoLaws
pub mod LendingOneLaws
pub mod LendingTwoLaws
