pub mod Handed
pub mod Outbound
pub mod Calls
pub mod CallLaws
