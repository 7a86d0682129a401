pub mod Handed
pub mod Limiter
pub mod LimiterLaws
