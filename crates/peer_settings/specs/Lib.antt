pub mod Config
pub mod ConfigLaws
pub mod Fits
