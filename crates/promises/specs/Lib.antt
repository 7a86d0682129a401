pub mod Trails
pub mod Core
pub mod Lives
pub mod RunLives
pub mod Held
pub mod Named
pub mod Example
pub mod Samples
