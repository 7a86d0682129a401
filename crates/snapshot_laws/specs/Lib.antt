pub mod Alike
pub mod WrittenLaws
pub mod ReadLaws
