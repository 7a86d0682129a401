pub mod Handed
pub mod Limiter
pub mod Private
pub mod Calls
pub mod LimiterLaws
