pub mod Step
pub mod Scan
pub mod Private
pub mod ScanLaws
