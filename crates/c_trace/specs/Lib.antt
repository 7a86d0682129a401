pub mod Words
pub mod Written
pub mod Private
pub mod WrittenLaws
pub mod Exported
pub mod OneOutcomeLaws
