pub mod Order
pub mod OrderLaws
pub mod FrontLaws
pub mod KeyBytesLaws
