pub mod Exported
pub mod OneOutcomeLaws
