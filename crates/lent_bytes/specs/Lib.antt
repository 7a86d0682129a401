pub mod LentBytes
pub mod Private
pub mod LentBytesLaws
pub mod FrontLaws
