pub mod Words
pub mod Shown
pub mod Scan
pub mod LineLaws
pub mod ShownLaws
