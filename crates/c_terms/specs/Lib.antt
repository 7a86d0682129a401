pub mod Answers
pub mod AmountWords
pub mod SettingsWords
pub mod SomeLaws
pub mod Keys
pub mod Left
pub mod LeftLaws
