pub mod Levels
pub mod NaturalLaws
