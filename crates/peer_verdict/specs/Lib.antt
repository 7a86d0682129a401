pub mod TakeLaws
pub mod Verdict
pub mod Causes
pub mod VerdictLaws
