pub mod Refusal
pub mod OneOutcomeLaws
pub mod Some
