pub mod Reader
pub mod ReaderLaws
