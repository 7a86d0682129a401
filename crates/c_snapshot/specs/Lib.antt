pub mod Exported
pub mod PlaceLaws
pub mod OneOutcomeLaws
