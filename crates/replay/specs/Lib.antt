pub mod Record
pub mod Line
pub mod LineLaws
pub mod Checksum
pub mod ChecksumLaws
pub mod Memory
