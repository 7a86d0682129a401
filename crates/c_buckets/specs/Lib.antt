pub mod Discrete
pub mod Amounts
pub mod Bytes
pub mod Handed
pub mod Settings
pub mod Limits
pub mod OutcomeLaws
